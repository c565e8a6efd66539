use mathlib.Core.Path.{◌≡◌}
use Prim.Native.Nat.{◌+◌, ◌≤◌}
use lib.Dec.{eqb}
use lib.ListN.{drop}
use Rattle.definition.specs.Base.{tally}
use Rattle.shares.proofs.count_of.Given as goal

abbrev pub invariant-loop-y : goal.invariant-loop-y
invariant-loop-y l = (l.count ≤ l.y-index) × (l.count + tally (eqb l.x) (drop l.y-index l.xs) ≡ tally (eqb l.x) l.xs)
