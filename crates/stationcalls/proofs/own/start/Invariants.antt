use Rattle.stationcalls.proofs.Eight.{Clearing}
use Rattle.stationcalls.proofs.own.start.Given as goal

abbrev pub invariant-loop-k : goal.invariant-loop-k
invariant-loop-k l = Clearing l.initial.own l.own l.k
