use Rattle.stationcalls.proofs.Tell.{Telling}
use Rattle.stationcalls.proofs.letters.tell.Given as goal

abbrev pub invariant-loop-i : goal.invariant-loop-i
invariant-loop-i l = Telling l.initial.events l.at l.called l.n l.k l.events l.i
