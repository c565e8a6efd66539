use mathlib.Core.List.{[]}
use Prim.Native.Nat.{◌+◌, ◌*◌, ◌-◌, ◌≤◌}
use lib.ListN.{take}
use Rattle.callfile.specs.Placed.{Puts}
use Rattle.stationcalls.specs.Parts.{lent_all}
use Rattle.stationrun.specs.StationRuns.{station_by}
use Rattle.stationreport.specs.StationReporting.{places_text, other_line}
use Rattle.stationreport.proofs.lines.put_others.Given as goal

abbrev pub invariant-loop-j : goal.invariant-loop-j
invariant-loop-j l = Puts (places_text (other_line l.number (take l.n l.told) (station_by (lent_all l.heads l.subs l.rows l.own) [])) 0 l.j) l.from l.initial.out l.at l.out × (l.j ≤ 8) × (l.at ≤ l.from + 128 * l.j)
