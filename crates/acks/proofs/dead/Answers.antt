use mathlib.Core.Path.{sym, ap, ◌∙◌}
use lib.IntN.{ℤ}
use lib.ListN.{set}
use mir.Syntax.{w32}
use mir.Val.{SFits}
use mir.ValLaws.{to_z-of_z}
use Rattle.definition.specs.Types.{letter}
use Rattle.definition.specs.Layout.{event_words}
use Rattle.definition.proofs.Tests.{if-true, if-false}
use borrow.Author.Rules.{rules}
use Rattle.acks.proofs.dead.Goals as goal

pub returns-then-e : goal.returns-then-e
returns-then-e c =
    let a = c.args in
    let t = c.if-e.true in
    let f : SFits w32 a.e.redelivery = search rules in
    let p = c.push_letter.ensures in
    (p.0 ∙ sym (if-true _ _ t), p.1 ∙ ap (λ (z : ℤ). set a.events.now a.d.events (event_words (letter a.e.seq z a.cause))) (to_z-of_z w32 a.e.redelivery f) ∙ sym (if-true _ _ t))

pub returns : goal.returns
returns c = let t = c.if-e.false in (c.count_discarded.ensures ∙ sym (if-false _ _ t), sym (if-false _ _ t))
