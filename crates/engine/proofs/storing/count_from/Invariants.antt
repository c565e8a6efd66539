use mathlib.Core.Path.{◌≡◌}
use Prim.Native.Nat.{◌+◌, ◌≤◌}
use lib.ListN.{drop}
use lib.Seq.{slice}
use Rattle.definition.specs.Base.{tally}
use Rattle.engine.specs.Shares.{came_from}
use Rattle.engine.proofs.storing.count_from.Given as goal

abbrev pub invariant-loop-row : goal.invariant-loop-row
invariant-loop-row l = (l.count ≤ l.row-index) × (l.count + tally (came_from l.conn) (drop l.row-index (slice l.from l.to l.rows)) ≡ tally (came_from l.conn) (slice l.from l.to l.rows))
