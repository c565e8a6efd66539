use mathlib.Core.Path.{◌≡◌, ap, ◌∙◌}
use lib.ListN.{set}
use mir.Syntax.{w32}
use mir.Val.{SFits}
use mir.ValLaws.{to_z-of_z}
use Rattle.words.specs.Words.{unsigned}
use Rattle.entry.specs.declared.Entry.{Entry}
use Rattle.entry.specs.Entry.{entry_of, redelivered}
use borrow.Author.Rules.{rules}
use Rattle.table.proofs.raised_row.Goals as goal

pub returns : goal.returns
unfolding entry_of
returns c = let a = c.args in
    let e : Entry = c.redelivered-e.result in
    let f : SFits w32 e.redelivery = search rules in
    let g : e ≡ redelivered (entry_of a.row) = c.redelivered-e.ensures ∙ ap redelivered c.entry_of.ensures in
    ap (set a.row 5) (c.word_of_int.ensures ∙ ap unsigned (to_z-of_z w32 e.redelivery f ∙ ap (λ (x : Entry). x.redelivery) g))
