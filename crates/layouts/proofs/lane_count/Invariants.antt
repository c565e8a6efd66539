use mathlib.Core.Path.{◌≡◌}
use Prim.Native.Nat.{◌+◌, ◌≤◌}
use lib.ListN.{drop}
use Rattle.layouts.specs.Steps.{lane_count}
use Rattle.layouts.proofs.lane_count.Given as goal

abbrev pub invariant-loop-i : goal.invariant-loop-i
invariant-loop-i l = (l.count ≤ l.i) × (l.count + lane_count (drop l.i l.firsts) (drop l.i l.lasts) l.layout ≡ lane_count l.firsts l.lasts l.layout)
