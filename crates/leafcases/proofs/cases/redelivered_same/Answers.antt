use mathlib.Core.Path.{sym, ◌∙◌}
use mir.Syntax.{w32}
use mir.Val.{SFits}
use mir.ValLaws.{to_z-of_z}
use Rattle.leafcases.specs.Compare.{redelivered_same}
use borrow.Author.Rules.{rules}
use Rattle.leafcases.proofs.cases.redelivered_same.Goals as goal

pub returns-then-not-is_int : goal.returns-then-not-is_int
unfolding redelivered_same
returns-then-not-is_int c = rw (sym c.is_int.ensures ∙ c.if-not-is_int.true)

pub returns : goal.returns
unfolding redelivered_same
returns c =
    let x = c.int_of in
    let r = c.redelivered-e in
    let f : SFits w32 x.result = search rules in
    let g : SFits w32 r.result.redelivery = search rules in
    let e = rw (to_z-of_z w32 r.result.redelivery g) at c.word_of_int.ensures in
    rw (sym c.is_int.ensures ∙ c.if-not-is_int.false, e, r.ensures, c.entry_with.ensures, to_z-of_z w32 x.result f, x.ensures)
