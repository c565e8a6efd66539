use Prim.Native.Nat.{◌-◌}
use Rattle.queues.proofs.Looking.{Looking}
use Rattle.queues.proofs.look.Given as goal

abbrev pub invariant-loop-i : goal.invariant-loop-i
invariant-loop-i l = Looking l.by l.s l.from l.to l.initial.rows l.rows l.end l.cursor l.i

abbrev pub decreases-loop-i : goal.decreases-loop-i
decreases-loop-i l = l.end - l.i
