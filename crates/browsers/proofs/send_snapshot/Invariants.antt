use Prim.Native.Nat.{◌-◌}
use Rattle.browsers.specs.Serving.{Sending}
use Rattle.browsers.proofs.send_snapshot.Given as goal

abbrev pub invariant-loop-s : goal.invariant-loop-s
invariant-loop-s l = Sending l.by l.base l.initial.rows l.initial.events l.initial.s l.initial.d l.rows l.events l.s l.d

abbrev pub decreases-loop-s : goal.decreases-loop-s
decreases-loop-s l = l.s.held
