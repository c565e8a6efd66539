use Prim.Native.Nat.{◌≤◌}
use Rattle.sound.specs.Sound.{SameRows}
use Rattle.sound.proofs.same_rows.Given as goal

abbrev pub invariant-loop-i : goal.invariant-loop-i
invariant-loop-i l = (l.i ≤ l.k) × SameRows l.a l.b l.i l.rows
