use mathlib.Core.Path.{sym, ◌∙◌}
use mir.Syntax.{w64}
use mir.Val.{SFits}
use mir.ValLaws.{to_z-of_z}
use Rattle.leafcases.specs.Compare.{apply_expiry_options_same}
use borrow.Author.Rules.{rules}
use Rattle.leafcases.proofs.cases.apply_expiry_options_same.Goals as goal

pub returns-then-not-flag_is : goal.returns-then-not-flag_is
unfolding apply_expiry_options_same
returns-then-not-flag_is c = rw (sym c.flag_is.ensures ∙ c.if-not-flag_is.true)

pub returns : goal.returns
unfolding apply_expiry_options_same
returns c =
    let x1 = c.signed_of in
    let x2 = c.signed_of-2 in
    let x3 = c.signed_of-3 in
    let x4 = c.signed_of-4 in
    let x5 = c.signed_of-5 in
    let f1 : SFits w64 x1.result = search rules in
    let f2 : SFits w64 x2.result = search rules in
    let f3 : SFits w64 x3.result = search rules in
    let f4 : SFits w64 x4.result = search rules in
    let f5 : SFits w64 x5.result = search rules in
    rw (sym c.flag_is.ensures ∙ c.if-not-flag_is.false)
    (c.arrival_same.ensures
    ∙ rw (c.apply_expiry_options-a.ensures, to_z-of_z w64 x1.result f1, to_z-of_z w64 x2.result f2, to_z-of_z w64 x3.result f3, to_z-of_z w64 x4.result f4, to_z-of_z w64 x5.result f5, x1.ensures, x2.ensures, x3.ensures, x4.ensures, x5.ensures))
