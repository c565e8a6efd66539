use mathlib.Core.Path.{ap, ◌∙◌}
use borrow.Author.Rules.{rules}
use Rattle.entry.proofs.Rows.{EntryFits}
use Rattle.definition.specs.Layout.{held_at, entry_strict}
use Rattle.table.proofs.Strict.{row-strict}
use Rattle.returns.proofs.Moving.{held-row-at}
use Rattle.returns.proofs.reserved_row.Goals as goal

pub returns : goal.returns
returns c =
    let a = c.args in
    let f : EntryFits a.e = search rules in
    (ap held_at c.reserved_row.ensures ∙ held-row-at a.e a.s.conn a.s.session a.s.value f, ap entry_strict c.reserved_row.ensures ∙ row-strict a.e _ _ _ (search rules))
