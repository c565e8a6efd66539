use Prim.Native.Nat.{◌-◌}
use Rattle.topics.proofs.Turn.{Going}
use Rattle.topics.proofs.serve_topic.Given as goal

abbrev pub invariant-loop-s : goal.invariant-loop-s
invariant-loop-s l = Going l.by l.base l.initial.rows l.initial.events l.initial.s l.initial.d l.rows l.events l.s l.d

abbrev pub decreases-loop-s : goal.decreases-loop-s
decreases-loop-s l = l.s.held
