use Rattle.stationcalls.specs.Parts.{lent_all}
use Rattle.stationcalls.proofs.Batched.{Sofar}
use Rattle.stationcalls.proofs.batch.run_each.Given as goal

abbrev pub invariant-loop-i : goal.invariant-loop-i
invariant-loop-i l =
    Sofar l.words (lent_all l.initial.heads l.initial.subs l.initial.rows l.initial.own) l.initial.events l.initial.outcomes (lent_all l.heads l.subs l.rows l.own) l.events l.outcomes l.i l.from
