use mathlib.Core.Path.{◌∙◌}
use mir.Syntax.{w64}
use mir.Val.{SFits}
use mir.ValLaws.{to_z-of_z}
use Rattle.leafcases.specs.Compare.{expired_same}
use borrow.Author.Rules.{rules}
use Rattle.leafcases.proofs.cases.expired_same.Goals as goal

pub returns : goal.returns
unfolding expired_same
returns c =
    let x = c.signed_of in
    let y = c.signed_of-2 in
    let f : SFits w64 x.result = search rules in
    let g : SFits w64 y.result = search rules in
    c.flag_is.ensures
    ∙ rw (c.expired.ensures, c.entry_with-e.ensures, to_z-of_z w64 x.result f, to_z-of_z w64 y.result g, x.ensures, y.ensures)
