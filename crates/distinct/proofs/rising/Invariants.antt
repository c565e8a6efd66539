use Rattle.std.proofs.Common.{◌≡◌, drop}
use Rattle.definition.specs.Base.{rising}
use Rattle.distinct.proofs.rising.Given as goal

abbrev pub invariant-loop-x : goal.invariant-loop-x
invariant-loop-x l = rising l.last (drop l.x-index l.xs) ≡ rising 0 l.xs
