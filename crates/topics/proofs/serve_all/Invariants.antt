use Prim.Native.Nat.{◌-◌}
use Rattle.topics.proofs.Round.{Round}
use Rattle.topics.proofs.serve_all.Given as goal

abbrev pub invariant-loop-i : goal.invariant-loop-i
invariant-loop-i l = Round l.by l.initial.subs l.initial.rows l.initial.events l.initial.d l.subs l.rows l.events l.d l.base l.i
