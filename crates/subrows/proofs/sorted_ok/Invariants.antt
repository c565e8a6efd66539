use mathlib.Core.Path.{◌≡◌}
use Prim.Native.Nat.{◌-◌, ◌≤◌}
use lib.Seq.{slice}
use Rattle.subrows.specs.Subrows.{sorted_ok}
use Rattle.subrows.proofs.Rows.{climbs}
use Rattle.subrows.proofs.sorted_ok.Given as goal

abbrev pub invariant-loop-i : goal.invariant-loop-i
invariant-loop-i l = (l.i ≤ l.to) × (climbs l.last (slice l.i l.to l.rows) ≡ sorted_ok 0 (slice l.from l.to l.rows))

abbrev pub decreases-loop-i : goal.decreases-loop-i
decreases-loop-i l = l.to - l.i

abbrev pub invariant-loop-i-2 : goal.invariant-loop-i-2
invariant-loop-i-2 l = (l.i ≤ l.to) × (climbs l.last (slice l.i l.to l.rows) ≡ sorted_ok 0 (slice l.from l.to l.rows))
