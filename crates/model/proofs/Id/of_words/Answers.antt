use borrow.Author.Rules.{rules}
use mir.Syntax.{w64}
use mir.ValLaws.{to_z-of_z}
use Rattle.model.proofs.Id.of_words.Goals as goal

pub returns : goal.returns
returns c =
    let s = c.signed_of in
    let v = c.signed_of-2 in
    rw (to_z-of_z w64 s.result (search rules), s.ensures, to_z-of_z w64 v.result (search rules), v.ensures)
