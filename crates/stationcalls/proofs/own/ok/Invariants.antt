use mathlib.Core.Path.{◌≡◌}
use Prim.Native.Nat.{◌≤◌}
use Rattle.stationcalls.specs.Own.{place_ok}
use Rattle.stationcalls.proofs.Eight.{from_on}
use Rattle.stationcalls.proofs.own.ok.Given as goal

abbrev pub invariant-loop-k : goal.invariant-loop-k
invariant-loop-k l = (l.k ≤ 8) × (from_on (place_ok l.own) l.k ≡ from_on (place_ok l.own) 0)
