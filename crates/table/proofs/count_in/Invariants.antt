use mathlib.Core.Path.{◌≡◌}
use Prim.Native.Nat.{◌+◌, ◌≤◌}
use lib.ListN.{drop}
use Rattle.definition.specs.Base.{tally}
use Rattle.table.specs.Table.{dseq_between}
use Rattle.table.proofs.count_in.Given as goal

abbrev pub invariant-loop-row : goal.invariant-loop-row
invariant-loop-row l = (l.count ≤ l.row-index) × (l.count + tally (dseq_between l.span.first l.span.last) (drop l.row-index l.rows) ≡ tally (dseq_between l.span.first l.span.last) l.rows)
