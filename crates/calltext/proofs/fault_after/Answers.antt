use mathlib.Core.Path.{sym, ap, ◌∙◌}
use Rattle.calltext.specs.Faults.{word_in, fault_after}
use Rattle.calltext.proofs.Faulting.{after_none, after-raw, after-name, also}
use Rattle.calltext.proofs.fault_after.Goals as goal

pub returns-then-i-text : goal.returns-then-i-text
returns-then-i-text c =
    let a = c.args in
    let p = c.requires in
    let d = word_in a.text.now a.at in
    record { order = p.0; within = p.1; bytes = sym (ap (fault_after d) (c.next_word-w.ensures.none c.if-i-text.true) ∙ after_none d) }

pub returns-then-place-eq-RAW : goal.returns-then-place-eq-RAW
returns-then-place-eq-RAW c =
    let a = c.args in
    let p = c.requires in
    let d = word_in a.text.now a.at in
    record { order = p.0; within = p.1; bytes = sym (ap (fault_after d) (c.next_word-w.ensures.some c.if-i-text.false) ∙ after-raw d _ _ (sym c.place_of-place.ensures ∙ c.if-place-eq-RAW.true)) }

pub fault_named-requires : goal.fault_named-requires
fault_named-requires c = (c.next_word-w.ensures.order, c.next_word-w.ensures.within, c.place_of-place.ensures)

pub returns : goal.returns
returns c =
    let a = c.args in
    let d = word_in a.text.now a.at in
    also c.fault_named.ensures (sym (ap (fault_after d) (c.next_word-w.ensures.some c.if-i-text.false) ∙ after-name d _ _ (λ e. c.if-place-eq-RAW.false (c.place_of-place.ensures ∙ e))))
