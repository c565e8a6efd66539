use mathlib.Core.Path.{◌≡◌, sym, ◌∙◌}
use mathlib.Core.Bool.{true}
use lib.ListN.{length}
use Rattle.definition_station.specs.Layout.{station_lengths_of}
use Rattle.stationcalls.specs.Parts.{lent_all}
use Rattle.stationrun.specs.CallSteps.{step_due}
use Rattle.stationrun.specs.StationRuns.{station_by, station_call}
use Rattle.stationrun.proofs.CallSteps.{moves-on}
use Rattle.runstation.proofs.run_piece.Goals as goal

pub loop-rt-smaller : goal.loop-rt-smaller
loop-rt-smaller c =
    let a = c.args in
    let l = c.loop-rt in
    let k = c.run_station_step-t in
    let due : step_due l.at l.from (length a.piece.now) ≡ true = sym c.is_due.ensures ∙ c.loop-rt-test.true in
    let b = lent_all l.heads l.subs l.rows l.own in
    moves-on (station_call (station_lengths_of b (length l.events))) 623872 true a.piece.now (station_by b l.events) k.ensures due
