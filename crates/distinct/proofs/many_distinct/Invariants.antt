use Rattle.std.proofs.Common.{◌≡◌, true, length, take}
use Rattle.definition.specs.Base.{distinct}
use Rattle.distinct.proofs.Laws.{Marked}
use Rattle.distinct.proofs.many_distinct.Given as goal

abbrev pub invariant-loop-i : goal.invariant-loop-i
invariant-loop-i g l = (distinct (take l.i l.xs) ≡ true) × (length l.slots ≡ g.row.N) × Marked g.row.N l.slots (take l.i l.xs)
