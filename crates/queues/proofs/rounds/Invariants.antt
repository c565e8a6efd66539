use Rattle.queues.proofs.Scanning.{Seeking, Going}
use Rattle.queues.proofs.rounds.Given as goal

abbrev pub invariant-loop-k : goal.invariant-loop-k
invariant-loop-k l = Seeking l.by l.initial.subs l.initial.rows l.initial.events l.initial.d l.subs l.rows l.events l.d l.k

abbrev pub invariant-dispatch : goal.invariant-dispatch
invariant-dispatch l = Going l.by l.initial.subs l.initial.rows l.initial.events l.initial.d l.subs l.rows l.events l.d

abbrev pub decreases-dispatch : goal.decreases-dispatch
decreases-dispatch l = l.d.waiting
