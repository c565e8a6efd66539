use mathlib.Core.Path.{◌≡◌}
use Rattle.table.specs.Table.{unmark_row}
use Rattle.table.proofs.Segments.{front_mapped}
use Rattle.table.proofs.unmark.Given as goal

abbrev pub invariant-loop-row : goal.invariant-loop-row
invariant-loop-row l = l.row-items ≡ front_mapped unmark_row l.row-index l.initial.row-items
