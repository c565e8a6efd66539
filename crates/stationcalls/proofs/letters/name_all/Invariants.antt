use Rattle.stationcalls.proofs.Tell.{Telling}
use Rattle.stationcalls.proofs.letters.name_all.Given as goal

abbrev pub invariant-loop-i : goal.invariant-loop-i
invariant-loop-i l = Telling l.initial.events 0 l.initial.events l.n l.k l.events l.i
