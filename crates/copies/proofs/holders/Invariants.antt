use mathlib.Core.Path.{◌≡◌}
use Prim.Native.Nat.{◌+◌, ◌≤◌}
use lib.ListN.{drop, take}
use Rattle.definition.specs.Base.{tally}
use Rattle.copies.specs.Copies.{may_copy}
use Rattle.copies.proofs.holders.Given as goal

abbrev pub invariant-loop-w : goal.invariant-loop-w
invariant-loop-w l = (l.count ≤ l.w-index) × (l.count + tally (may_copy l.on_queue) (drop l.w-index (take l.n l.subs)) ≡ tally (may_copy l.on_queue) (take l.n l.subs))
