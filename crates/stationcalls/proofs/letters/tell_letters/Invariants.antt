use mathlib.Core.Path.{◌≡◌}
use Prim.Native.Nat.{◌≤◌}
use lib.ListN.{length, take}
use Rattle.stationcalls.specs.All.{rows_told, numbers_got}
use Rattle.stationcalls.proofs.Filling.{Filling}
use Rattle.stationcalls.proofs.letters.tell_letters.Given as goal

abbrev pub invariant-loop-i : goal.invariant-loop-i
invariant-loop-i l =
    Filling l.initial.told (rows_told (take l.n l.dead) (numbers_got l.many l.letters) (take l.many l.places)) l.end l.told l.i × (l.end ≤ l.n) × (l.n ≤ length l.dead) × (l.many ≤ length l.letters) × (l.many ≤ length l.places) × (length l.told ≡ length l.initial.told)
