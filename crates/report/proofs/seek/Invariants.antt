use mathlib.Core.Path.{◌≡◌}
use mathlib.Core.List.{map}
use Prim.Native.Nat.{◌≤◌}
use lib.Seq.{slice}
use Rattle.definition.specs.Base.{member}
use Rattle.definition.specs.Words.{at}
use Rattle.report.proofs.seek.Given as goal

abbrev pub invariant-loop-i : goal.invariant-loop-i
invariant-loop-i l = (l.i ≤ l.to) × (member l.seq (map (at 0) (slice l.i l.to l.blocks)) ≡ member l.seq (map (at 0) (slice l.from l.to l.blocks)))
