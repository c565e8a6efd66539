use Prim.Native.Nat.{◌+◌, ◌*◌, ◌≤◌}
use mathlib.Core.Path.{◌≡◌}
use lib.ListN.{length}
use Rattle.callfile.specs.Placed.{Puts}
use Rattle.calltext.specs.Shown.{fields}
use Rattle.calltext.proofs.put_fields.Given as goal

abbrev pub invariant-loop-k : goal.invariant-loop-k
invariant-loop-k l = (length l.w ≡ 8) × (l.k ≤ l.n) × (l.next ≤ l.at + 22 * l.k) × Puts (fields l.place l.w l.k) l.at l.initial.out l.next l.out
