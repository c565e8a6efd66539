use Rattle.std.proofs.Common.{◌≡◌, drop}
use Rattle.subrows.specs.Subrows.{ids_apart}
use Rattle.subrows.proofs.ids_apart.Given as goal

abbrev pub invariant-loop-i : goal.invariant-loop-i
invariant-loop-i l = ids_apart (drop l.i l.subs) ≡ ids_apart l.subs
