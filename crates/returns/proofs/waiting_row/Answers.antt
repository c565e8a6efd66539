use mathlib.Core.Path.{ap, ◌∙◌}
use borrow.Author.Rules.{rules}
use Rattle.entry.specs.Entry.{entry_of}
use Rattle.entry.proofs.Rows.{EntryFits, entry-of-row}
use Rattle.definition.specs.Layout.{entry_strict}
use Rattle.table.proofs.Strict.{row-strict}
use Rattle.returns.proofs.waiting_row.Goals as goal

pub returns : goal.returns
returns c =
    let a = c.args in
    let f : EntryFits a.e = search rules in
    (ap entry_of c.held_row.ensures ∙ entry-of-row a.e 0 0 0 f, ap entry_strict c.held_row.ensures ∙ row-strict a.e 0 0 0 (search rules))
