use mathlib.Core.Path.{◌≡◌}
use Prim.Native.Nat.{◌-◌, ◌≤◌}
use lib.ListN.{length}
use Rattle.stationreport.specs.Gathering.{anew_row, counts_anew}
use Rattle.stationreport.proofs.EachPlace.{each_from}
use Rattle.stationreport.proofs.lines.begin.Given as goal

abbrev pub invariant-loop-j : goal.invariant-loop-j
invariant-loop-j l = (length l.gone ≡ length l.initial.gone) × (l.j ≤ 8) × (each_from (anew_row l.number l.all) l.j l.gone ≡ counts_anew l.number l.all 0 l.initial.gone)
