use Rattle.engine.proofs.Batched.{Sofar}
use Rattle.definition.specs.Layout.{lent}
use Rattle.engine.proofs.batch.run_each.Given as goal

abbrev pub invariant-loop-i : goal.invariant-loop-i
invariant-loop-i l =
    Sofar l.words (lent l.initial.head l.initial.subs l.initial.rows) l.initial.events l.initial.outcomes (lent l.head l.subs l.rows) l.events l.outcomes l.i l.from
