use Rattle.std.proofs.Common.{◌≡◌, true, take}
use Rattle.definition.specs.Base.{distinct}
use Rattle.distinct.proofs.few_distinct.Given as goal

abbrev pub invariant-loop-i : goal.invariant-loop-i
invariant-loop-i l = distinct (take l.i l.xs) ≡ true
