use mathlib.Core.Path.{◌≡◌}
use Prim.Native.Nat.{◌-◌, ◌*◌, ◌≤◌}
use lib.ListN.{length}
use lib.Seq.{slice}
use Rattle.copies.proofs.Laws.{Slots}
use Rattle.queries.specs.Bytes.{bytes_at}
use Rattle.queries.proofs.once.Given as goal

abbrev pub invariant-loop-i : goal.invariant-loop-i
invariant-loop-i l = (l.sum ≡ bytes_at (slice l.i l.n l.rows)) × (l.sum ≤ (l.n - l.i) * 4294967295) × (length l.slots ≡ 1024) × Slots 1024 l.slots l.i l.n l.rows
