use mathlib.Core.Path.{◌≡◌}
use Prim.Native.Nat.{◌+◌, ◌≤◌}
use lib.ListN.{drop}
use lib.Seq.{slice}
use Rattle.definition.specs.Base.{tally}
use Rattle.joins.specs.Joins.{snapped}
use Rattle.joins.proofs.count_snapped.Given as goal

abbrev pub invariant-loop-row : goal.invariant-loop-row
invariant-loop-row l = (l.count ≤ l.row-index) × (l.count + tally (snapped l.by l.selector) (drop l.row-index (slice l.from l.to l.rows)) ≡ tally (snapped l.by l.selector) (slice l.from l.to l.rows))
