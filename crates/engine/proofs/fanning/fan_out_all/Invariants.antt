use Rattle.engine.proofs.Round.{Round}
use Rattle.engine.proofs.fanning.fan_out_all.Given as goal

abbrev pub invariant-loop-i : goal.invariant-loop-i
invariant-loop-i l = Round l.by l.e l.initial.subs l.initial.rows l.before l.subs l.rows l.used l.expired l.over l.base l.i
