use mir.Syntax.{w32, w64}
use mir.ValLaws.{to_z-of_z}
use Rattle.words.proofs.Words.{int-widens}
use Rattle.words.proofs.word_of_int.Goals as goal

pub overflow_cast-x : goal.overflow_cast-x
overflow_cast-x c = rw (to_z-of_z w32 c.args.x c.ranges.x) (int-widens c.args.x c.ranges.x)

pub returns : goal.returns
returns c =
    let x = c.args.x in
    let f = c.ranges.x in
    rw (to_z-of_z w32 x f, to_z-of_z w64 x (int-widens x f)) at c.word_of.ensures
