-- The bytes so far, and those of what is left, are those of the number.
use Prim.Native.Nat.{◌-◌}
use mathlib.Core.Path.{◌≡◌}
use mathlib.Core.List.{◌++◌}
use lib.ListN.{length, take}
use Rattle.callblocks.specs.Packed.{low_bytes}
use Rattle.callblocks.proofs.put_bytes.Given as goal

abbrev pub invariant-loop-b : goal.invariant-loop-b
invariant-loop-b l = (length l.b-items ≡ l.size) × (take l.b-index l.b-items ++ low_bytes (l.size - l.b-index) l.rest ≡ low_bytes l.size l.n)
