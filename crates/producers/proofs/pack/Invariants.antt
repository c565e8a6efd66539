use Rattle.producers.specs.Groups.{stays}
use Rattle.producers.proofs.Loops.{Packing}
use Rattle.producers.proofs.pack.Given as goal

abbrev pub invariant-loop : goal.invariant-loop
invariant-loop l = Packing (stays l.whole l.id) l.width l.n l.at l.initial.head l.head l.from l.to l.kept l.counter
