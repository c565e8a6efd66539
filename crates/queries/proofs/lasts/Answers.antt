use mathlib.Core.Path.{ap}
use mathlib.Core.Bool.{not}
use lib.IntN.{pos}
use lib.Signed.{lt_z}
use mir.Syntax.{w64}
use mir.Val.{SFits}
use mir.ValLaws.{to_z-of_z}
use Rattle.entry.specs.declared.Entry.{Entry}
use borrow.Author.Rules.{rules}
use Rattle.queries.proofs.lasts.Goals as goal

pub returns : goal.returns
returns c =
    let e = c.entry_of-at in
    let f : SFits w64 e.result.expiration = search rules in
    rw (to_z-of_z w64 e.result.expiration f) (ap (λ (x : Entry). not (lt_z (pos 0) x.expiration)) e.ensures)
