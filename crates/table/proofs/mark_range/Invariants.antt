use mathlib.Core.Path.{◌≡◌}
use mathlib.Core.Bool.{Bool, not, ◌&&◌}
use Prim.Native.Nat.{ℕ, ◌≤◌}
use lib.ListN.{take}
use Rattle.definition.specs.Layout.{Row}
use Rattle.definition.specs.Base.{tally}
use Rattle.table.specs.Table.{dseq_between, is_freed, mark_row}
use Rattle.table.proofs.Segments.{front_mapped}
use Rattle.table.proofs.mark_range.Given as goal

abbrev unfreed : ℕ → ℕ → Row → Bool
unfreed first last w = dseq_between first last w && not (is_freed w)

abbrev pub invariant-loop-row : goal.invariant-loop-row
invariant-loop-row l = (l.fresh ≤ l.row-index) × (l.fresh ≡ tally (unfreed l.span.first l.span.last) (take l.row-index l.initial.row-items)) × (l.row-items ≡ front_mapped (mark_row l.span.first l.span.last l.tx) l.row-index l.initial.row-items)
