use mathlib.Core.Path.{◌≡◌}
use Prim.Native.Nat.{◌+◌, ◌≤◌}
use mathlib.Core.Bool.{◌&&◌}
use Rattle.definition.specs.Layout.{Row}
use lib.ListN.{drop}
use Rattle.definition.specs.Base.{tally}
use Rattle.table.specs.Table.{dseq_between, is_freed}
use Rattle.table.proofs.count_freed.Given as goal

abbrev pub invariant-loop-row : goal.invariant-loop-row
invariant-loop-row l = (l.count ≤ l.row-index) × (l.count + tally (λ (w : Row). dseq_between l.span.first l.span.last w && is_freed w) (drop l.row-index l.rows) ≡ tally (λ (w : Row). dseq_between l.span.first l.span.last w && is_freed w) l.rows)
