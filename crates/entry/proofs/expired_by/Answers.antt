use mathlib.Core.Path.{ap, ◌∙◌}
use lib.IntN.{ℤ}
use mir.Syntax.{w64}
use mir.Val.{SFits}
use mir.ValLaws.{to_z-of_z}
use Rattle.entry.specs.Entry.{expired}
use borrow.Author.Rules.{rules}
use Rattle.entry.proofs.expired_by.Goals as goal

pub returns : goal.returns
returns c =
    let a = c.args in
    let f : SFits w64 c.signed_of.result = search rules in
    c.expired.ensures ∙ ap (λ (z : ℤ). expired z a.e) (to_z-of_z w64 c.signed_of.result f ∙ c.signed_of.ensures)
