use mathlib.Core.Path.{◌≡◌}
use Prim.Native.Nat.{◌-◌, ◌≤◌}
use Rattle.outlooks.specs.Plans.{plan_line}
use Rattle.queries.proofs.Filled.{filled}
use Rattle.destination.proofs.readings.destination_outlook.Given as goal

abbrev pub invariant-loop-i : goal.invariant-loop-i
invariant-loop-i l = (l.i ≤ l.p.count) × (l.lines ≡ filled (plan_line l.rows l.p) l.initial.lines l.i)

abbrev pub decreases-loop-i : goal.decreases-loop-i
decreases-loop-i l = l.p.count - l.i
