use Prim.Native.Nat.{◌-◌}
use mathlib.Core.Path.{◌≡◌, sym, ap, ◌∙◌}
use mathlib.Core.Bool.{not}
use borrow.Author.Tests.{not-true, not-false}
use Rattle.calltext.specs.Faults.{is_number, fault_in}
use Rattle.calltext.proofs.Faulting.{number-some, in-none, in-plain, in-destination, in-placed, also}
use native.Mathlib.Omega.{arith}
use Rattle.calltext.proofs.fault_in.Goals as goal

pub returns-then-i-text : goal.returns-then-i-text
returns-then-i-text c =
    let w = c.next_word-w in
    let z : w.result.to - w.result.from ≡ 0 = omega arith in
    record { order = w.ensures.order; within = w.ensures.within; bytes = rw z (sym (ap fault_in (w.ensures.none c.if-i-text.true) ∙ in-none)) }

pub fault_named-requires : goal.fault_named-requires
fault_named-requires c = (c.next_word-w.ensures.order, c.next_word-w.ensures.within, c.place_of-place.ensures)

pub returns-then-not-at_sign : goal.returns-then-not-at_sign
returns-then-not-at_sign c =
    let plain = sym c.at_sign.ensures ∙ not-true _ c.if-not-at_sign.true-raw in
    also c.fault_named.ensures (sym (ap fault_in (c.next_word-w.ensures.some c.if-i-text.false) ∙ in-plain _ _ plain))

pub returns-then-is_none : goal.returns-then-is_none
returns-then-is_none c =
    let w = c.next_word-w.ensures in
    let at = sym c.at_sign.ensures ∙ not-false _ c.if-not-at_sign.false-raw in
    let no = sym (ap is_number c.destination_of.ensures) ∙ sym (number-some _) ∙ c.is_none.ensures ∙ ap not c.if-is_none.true in
    record { order = w.order; within = w.within; bytes = sym (ap fault_in (w.some c.if-i-text.false) ∙ in-destination _ _ at no) }

pub returns : goal.returns
returns c =
    let at = sym c.at_sign.ensures ∙ not-false _ c.if-not-at_sign.false-raw in
    let yes = sym (ap is_number c.destination_of.ensures) ∙ sym (number-some _) ∙ c.is_none.ensures ∙ ap not c.if-is_none.false in
    also c.fault_after.ensures (sym (ap fault_in (c.next_word-w.ensures.some c.if-i-text.false) ∙ in-placed _ _ at yes))
