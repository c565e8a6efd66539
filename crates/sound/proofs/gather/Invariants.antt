use mathlib.Core.Path.{◌≡◌}
use mathlib.Core.List.{◌++◌, map}
use Prim.Native.Nat.{◌+◌, ◌≤◌}
use lib.ListN.{length, take, drop}
use Rattle.definition.specs.Words.{at}
use Rattle.sound.proofs.gather.Given as goal

abbrev pub invariant-loop-i : goal.invariant-loop-i
invariant-loop-i g l = (l.i ≤ l.n) × (length l.out ≡ length l.initial.out) × (take (l.start + l.i) l.out ≡ take l.start l.initial.out ++ map (at g.row.WORD) (take l.i (drop l.from l.rows)))
