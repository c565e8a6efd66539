use Prim.Native.Nat.{◌-◌}
use Rattle.queues.specs.Look.{Passed}
use Rattle.queues.proofs.passed.Given as goal

abbrev pub invariant-loop-i : goal.invariant-loop-i
invariant-loop-i l = Passed l.from l.to l.cursor l.rows l.i

abbrev pub decreases-loop-i : goal.decreases-loop-i
decreases-loop-i l = l.to - l.i
