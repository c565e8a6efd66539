use mathlib.Core.Path.{◌≡◌, sym, ◌∙◌}
use mathlib.Core.Bool.{true}
use lib.ListN.{length}
use Rattle.definition_station.specs.Layout.{station_lengths_of}
use Rattle.stationcalls.specs.Parts.{lent_all}
use Rattle.stationrun.specs.CallSteps.{step_due}
use Rattle.stationrun.proofs.CallSteps.{moves-on}
use Rattle.stationreport.specs.StationReporting.{noted_by, station_report_call}
use Rattle.stationreport.specs.StationReportFiles.{report_fit}
use Rattle.stationfates.proofs.report_piece.Goals as goal

pub shape_of-heads-then-not-write : goal.shape_of-heads-then-not-write
shape_of-heads-then-not-write c =
    c.report_station_step-t.auto.heads ∙ c.loop-rt.invariant.0

pub shape_of-subs-then-not-write : goal.shape_of-subs-then-not-write
shape_of-subs-then-not-write c =
    c.report_station_step-t.auto.subs ∙ c.loop-rt.invariant.1

pub shape_of-rows-then-not-write : goal.shape_of-rows-then-not-write
shape_of-rows-then-not-write c =
    c.report_station_step-t.auto.rows ∙ c.loop-rt.invariant.2

pub shape_of-own-then-not-write : goal.shape_of-own-then-not-write
shape_of-own-then-not-write c =
    c.report_station_step-t.auto.own ∙ c.loop-rt.invariant.3

pub shape_of-events-then-not-write : goal.shape_of-events-then-not-write
shape_of-events-then-not-write c =
    c.report_station_step-t.auto.events ∙ c.loop-rt.invariant.4

pub shape_of-gone-then-not-write : goal.shape_of-gone-then-not-write
shape_of-gone-then-not-write c =
    c.report_station_step-t.auto.gone ∙ c.loop-rt.invariant.5

pub shape_of-block-then-not-write : goal.shape_of-block-then-not-write
shape_of-block-then-not-write c =
    c.report_station_step-t.auto.block ∙ c.loop-rt.invariant.6

pub shape_of-out-then-not-write : goal.shape_of-out-then-not-write
shape_of-out-then-not-write c =
    c.report_station_step-t.auto.out ∙ c.loop-rt.invariant.7

pub loop-rt-smaller : goal.loop-rt-smaller
loop-rt-smaller c =
    let a = c.args in
    let l = c.loop-rt in
    let due : step_due l.at l.from (length a.piece.now) ≡ true = sym c.is_due.ensures ∙ c.loop-rt-test.true in
    let b = lent_all l.heads l.subs l.rows l.own in
    let n = station_lengths_of b (length l.events) in
    moves-on (station_report_call n) 1740800 (report_fit n (length l.gone)) a.piece.now (noted_by b l.events l.gone) c.report_station_step-t.ensures due

pub loop-rt-preserved : goal.loop-rt-preserved
loop-rt-preserved c =
    let i = c.loop-rt.invariant in
    let k = c.report_station_step-t in
    (k.auto.heads ∙ i.0, k.auto.subs ∙ i.1, k.auto.rows ∙ i.2, k.auto.own ∙ i.3, k.auto.events ∙ i.4, k.auto.gone ∙ i.5, k.auto.block ∙ i.6, k.auto.out ∙ i.7)
