use mathlib.Core.List.{[]}
use Prim.Native.Nat.{◌+◌, ◌*◌, ◌-◌, ◌≤◌}
use Rattle.callfile.specs.Placed.{Puts}
use Rattle.stationcalls.specs.Parts.{lent_all}
use Rattle.stationreport.specs.StationReporting.{places_text, noted_by}
use Rattle.stationreport.specs.StationReportFiles.{place_tail}
use Rattle.stationreport.proofs.put_tails.Given as goal

abbrev pub invariant-loop-k : goal.invariant-loop-k
invariant-loop-k l = Puts (places_text (place_tail (noted_by (lent_all l.heads l.subs l.rows l.own) [] l.gone)) 0 l.k) l.from l.initial.out l.at l.out × (l.k ≤ 8) × (l.at ≤ l.from + 65920 * l.k)
