use borrow.Author.Rules.{rules}
use mir.Syntax.{w32, w64}
use mir.ValLaws.{to_z-of_z}
use Rattle.entry.specs.Entry.{entry_of}
use Rattle.entry.proofs.entry_of.Goals as goal

pub returns : goal.returns
unfolding entry_of
returns c = rw (to_z-of_z w64 c.signed_of.result (search rules), c.signed_of.ensures, to_z-of_z w32 c.int_of.result (search rules), c.int_of.ensures)
