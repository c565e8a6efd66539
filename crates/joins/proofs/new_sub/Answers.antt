use mir.Syntax.{w32}
use mir.Val.{SFits}
use mir.ValLaws.{to_z-of_z}
use borrow.Author.Rules.{rules}
use Rattle.joins.proofs.new_sub.Goals as goal

pub returns : goal.returns
returns c =
    let a = c.args in
    let f : SFits w32 a.spec.prefetch = search rules in
    rw (c.room.ensures, to_z-of_z w32 a.spec.prefetch f)
