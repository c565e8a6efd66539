use Prim.Native.Nat.{◌-◌}
use Rattle.expiry.proofs.Lists.{Turn}
use Rattle.expiry.proofs.sweep_list.Given as goal

abbrev pub invariant-loop-w : goal.invariant-loop-w
invariant-loop-w l = Turn l.most l.by l.from l.initial.rows l.initial.w l.rows l.w

abbrev pub decreases-loop-w : goal.decreases-loop-w
decreases-loop-w l = l.most - l.w.gone
