use Prim.Native.Nat.{ℕ}
use mathlib.Core.Path.{sym, ap, ◌∙◌}
use borrow.Author.Tests.{not-true, not-false}
use lib.ListN.{drop}
use Rattle.textwords.specs.Text.{words_of}
use Rattle.calltext.specs.Lines.{named_call, call_in}
use Rattle.calltext.proofs.Gathering.{destination-low, no_call, one-call, placed-call, no-destination}
use Rattle.calltext.proofs.parse_words.Goals as goal

pub returns-then-i-text : goal.returns-then-i-text
returns-then-i-text c = sym no_call ∙ ap call_in (sym (c.next_word-w.ensures.none c.if-i-text.true))

pub returns-then-not-at_sign : goal.returns-then-not-at_sign
returns-then-not-at_sign c =
    let w = c.next_word-w in
    let plain = sym c.at_sign.ensures ∙ not-true _ c.if-not-at_sign.true-raw in
    c.named_from.ensures ∙ ap (λ (k : ℕ). named_call 0 k (words_of (drop w.result.to c.args.text.now))) c.place_of-place.ensures ∙ sym (one-call _ _ plain) ∙ ap call_in (sym (w.ensures.some c.if-i-text.false))

pub returns-in_default : goal.returns-in_default
returns-in_default c =
    let at = sym c.at_sign.ensures ∙ not-false _ c.if-not-at_sign.false-raw in
    sym (no-destination _ _ at (sym c.destination_of.ensures ∙ c.in_default.is)) ∙ ap call_in (sym (c.next_word-w.ensures.some c.if-i-text.false))

pub call_for-requires : goal.call_for-requires
call_for-requires c = (c.next_word-w.ensures.within, destination-low _ c.in-Some.d (sym c.destination_of.ensures ∙ c.in-Some.is))

pub returns : goal.returns
returns c =
    let at = sym c.at_sign.ensures ∙ not-false _ c.if-not-at_sign.false-raw in
    c.call_for.ensures ∙ sym (placed-call _ _ at c.in-Some.d (sym c.destination_of.ensures ∙ c.in-Some.is)) ∙ ap call_in (sym (c.next_word-w.ensures.some c.if-i-text.false))
