use borrow.Author.Rules.{rules}
use mir.Syntax.{w32, w64}
use mir.Val.{SFits}
use mir.ValLaws.{to_z-of_z}
use Rattle.entry.specs.Entry.{row_of}
use Rattle.entry.proofs.row_of.Goals as goal

pub returns : goal.returns
unfolding row_of
returns c =
    let e = c.args.e in
    let f : SFits w64 e.expiration = search rules in
    let g : SFits w32 e.redelivery = search rules in
    rw (c.word_of.ensures, to_z-of_z w64 e.expiration f, c.word_of_int.ensures, to_z-of_z w32 e.redelivery g)
