use mathlib.Core.Path.{◌≡◌, sym, ap, ◌∙◌}
use mathlib.Core.Bool.{true, false}
use lib.IntN.{ℤ}
use mir.Syntax.{w64}
use mir.Val.{to_z, of_z}
use mir.ValLaws.{to_z-of_z}
use Rattle.definition.specs.Consumer.{redelivered}
use Rattle.definition.specs.Destination.{was_delivered}
use Rattle.definition.proofs.Tests.{if-true, if-false}
use Rattle.returns.proofs.given_back.Goals as goal

pub returns-then-was_delivered : goal.returns-then-was_delivered
returns-then-was_delivered c =
    let a = c.args in
    let z : to_z w64 (of_z w64 a.last) ≡ a.last = to_z-of_z w64 a.last c.ranges.last in
    let t : was_delivered a.last a.e ≡ true = ap (λ (x : ℤ). was_delivered x a.e) (sym z) ∙ sym c.was_delivered.ensures ∙ c.if-was_delivered.true in
    c.redelivered.ensures ∙ sym (if-true (redelivered a.e) a.e t)

pub returns : goal.returns
returns c =
    let a = c.args in
    let z : to_z w64 (of_z w64 a.last) ≡ a.last = to_z-of_z w64 a.last c.ranges.last in
    let t : was_delivered a.last a.e ≡ false = ap (λ (x : ℤ). was_delivered x a.e) (sym z) ∙ sym c.was_delivered.ensures ∙ c.if-was_delivered.false in
    sym (if-false (redelivered a.e) a.e t)
