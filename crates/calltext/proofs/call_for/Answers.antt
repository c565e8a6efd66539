use Prim.Native.Nat.{ℕ}
use mathlib.Core.Path.{sym, ap, ◌∙◌}
use lib.ListN.{drop}
use Rattle.textwords.specs.Text.{words_of}
use Rattle.calltext.specs.Lines.{named_call, call_for}
use Rattle.calltext.proofs.Gathering.{for-none, for-raw, for-name}
use Rattle.calltext.proofs.call_for.Goals as goal

pub returns-then-i-text : goal.returns-then-i-text
returns-then-i-text c =
    let d = c.args.d in
    sym (for-none d) ∙ ap (call_for d) (sym (c.next_word-w.ensures.none c.if-i-text.true))

pub returns-then-place-eq-RAW : goal.returns-then-place-eq-RAW
returns-then-place-eq-RAW c =
    let d = c.args.d in
    sym (for-raw d _ _ (sym c.place_of-place.ensures ∙ c.if-place-eq-RAW.true)) ∙ ap (call_for d) (sym (c.next_word-w.ensures.some c.if-i-text.false))

pub returns : goal.returns
returns c =
    let a = c.args in
    let w = c.next_word-w in
    let e = c.place_of-place.ensures in
    c.named_from.ensures ∙ ap (λ (k : ℕ). named_call a.d k (words_of (drop w.result.to a.text.now))) e ∙ sym (for-name a.d _ _ (λ f. c.if-place-eq-RAW.false (e ∙ f))) ∙ ap (call_for a.d) (sym (w.ensures.some c.if-i-text.false))
