use mathlib.Core.Path.{◌≡◌}
use Prim.Native.Nat.{◌+◌, ◌*◌, ◌-◌, ◌≤◌}
use lib.ListN.{length, take}
use Rattle.callfile.specs.Placed.{Puts}
use Rattle.stationreportlines.specs.StationReportLines.{blocks_text_on}
use Rattle.stationcalls.specs.Parts.{lent_all}
use Rattle.stationreport.specs.StationReporting.{places_text}
use Rattle.stationreport.specs.Gathering.{left_from, gone_row_by, counts_by}
use Rattle.stationreport.proofs.EachPlace.{each_from}
use Rattle.stationreport.proofs.lines.put_left.Given as goal

abbrev pub invariant-loop-j : goal.invariant-loop-j
invariant-loop-j l =
    let left = left_from (lent_all l.heads l.subs l.rows l.own) l.lists l.counts (take l.n l.told) l.number l.code l.words in
    (l.j ≤ 8) × (length l.gone ≡ length l.initial.gone) × Puts (places_text (λ k. blocks_text_on k (left k)) 0 l.j) l.from l.initial.out l.at l.out × (l.at ≤ l.from + 131200 * l.j) × (each_from (gone_row_by left) l.j l.gone ≡ counts_by left 0 l.initial.gone)
