use mathlib.Core.Path.{◌≡◌}
use Prim.Native.Nat.{◌+◌, ◌-◌, ◌≤◌}
use lib.ListN.{length, take}
use lib.Seq.{sets, slice}
use Rattle.stationreport.proofs.Came.{stored_to}
use Rattle.stationreport.proofs.blocks.came_at.Given as goal

abbrev pub invariant-loop-i : goal.invariant-loop-i
invariant-loop-i l =
    (l.i ≤ l.n) × (l.k ≤ l.initial.k + l.i) × (length l.list ≡ length l.initial.list)
    × (l.k + length (stored_to l.j (slice l.i l.n l.told)) ≡ l.initial.k + length (stored_to l.j (take l.n l.told)))
    × (sets l.list l.k (stored_to l.j (slice l.i l.n l.told)) ≡ sets l.initial.list l.initial.k (stored_to l.j (take l.n l.told)))
