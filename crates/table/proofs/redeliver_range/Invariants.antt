use mathlib.Core.Path.{◌≡◌}
use Rattle.table.specs.Table.{redeliver_row}
use Rattle.table.proofs.Segments.{front_mapped}
use Rattle.table.proofs.redeliver_range.Given as goal

abbrev pub invariant-loop-row : goal.invariant-loop-row
invariant-loop-row l = l.row-items ≡ front_mapped (redeliver_row l.span.first l.span.last) l.row-index l.initial.row-items
