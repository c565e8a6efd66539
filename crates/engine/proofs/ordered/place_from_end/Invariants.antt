use mathlib.Core.Path.{◌≡◌}
use mathlib.Core.Bool.{true}
use Prim.Native.Nat.{◌≤◌}
use lib.Seq.{slice}
use Rattle.table.specs.Table.{place_from, place_of}
use Rattle.engine.specs.Arrivals.{rows_in_order}
use Rattle.engine.proofs.ordered.place_from_end.Given as goal

abbrev pub invariant-loop-i : goal.invariant-loop-i
invariant-loop-i l = (l.from ≤ l.i) × (l.i ≤ l.to) × (rows_in_order (slice l.from l.i l.rows) ≡ true) × (place_from l.from l.seq (slice l.from l.i l.rows) ≡ place_of l.from l.to l.seq l.rows)

abbrev pub decreases-loop-i : goal.decreases-loop-i
decreases-loop-i l = l.i
