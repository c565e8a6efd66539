use mathlib.Core.Path.{◌≡◌}
use Prim.Native.Nat.{◌-◌, ◌≤◌}
use lib.ListN.{length}
use Rattle.stationcalls.specs.Parts.{lent_all}
use Rattle.stationreport.proofs.Gathered.{GatheredTo}
use Rattle.stationreport.proofs.blocks.hold_all.Given as goal

abbrev pub invariant-loop-j : goal.invariant-loop-j
invariant-loop-j l = (l.j ≤ 8) × (length l.lists ≡ length l.initial.lists) × (length l.counts ≡ length l.initial.counts) × GatheredTo (lent_all l.heads l.subs l.rows l.own) l.j l.lists l.counts
