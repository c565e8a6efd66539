use mathlib.Core.Path.{◌≡◌}
use Prim.Native.Nat.{◌+◌, ◌-◌, ◌*◌, ◌≤◌}
use lib.ListN.{length, drop}
use Rattle.producers.specs.Groups.{has_id, first_of}
use Rattle.producers.proofs.find.Given as goal

abbrev pub invariant-loop-k : goal.invariant-loop-k
invariant-loop-k l = (l.k ≤ l.n) × (l.from + (l.n - l.k) * l.width ≤ length l.head) × (l.k + first_of (has_id l.id) l.width (l.n - l.k) (drop l.from l.head) ≡ first_of (has_id l.id) l.width l.n (drop l.at l.head))
