use lib.ListN.{length}
use Rattle.definition_station.specs.Layout.{station_lengths_of}
use Rattle.stationcalls.specs.Parts.{lent_all}
use Rattle.stationrun.proofs.CallSteps.{none-there}
use Rattle.stationreport.specs.StationReporting.{station_report_call, noted_by}
use Rattle.stationreport.specs.StationReportFiles.{ReportKeeps}
use Rattle.stationreport.proofs.Reported.{report-keeps-all, report-done}
use native.Mathlib.Omega.{arith}
use Rattle.stationreport.proofs.report_next.Goals as goal

pub returns-then-count-at : goal.returns-then-count-at
returns-then-count-at c =
    let a = c.args in
    let m = c.calls_in-count in
    let b = lent_all a.heads.now a.subs.now a.rows.now a.own.now in
    let v = a.events.now in
    let g = a.gone.now in
    none-there (station_report_call (station_lengths_of b (length v))) a.at a.from a.block.now (noted_by b v g) a.out.now m.result m.ensures (ReportKeeps b b v v g g)
    c.if-count-at.true (omega (arith, c.requires.1)) c.put_bad-written.ensures c.ended.ensures (report-keeps-all b v g)

pub report_call-written-requires : goal.report_call-written-requires
report_call-written-requires c = let p = c.requires in (p.3, p.2, p.1)

pub returns : goal.returns
returns c =
    let a = c.args in
    let m = c.calls_in-count in
    let x = c.call_at-c in
    let k = c.report_call-written in
    report-done a.at a.from a.block.now (lent_all a.heads.now a.subs.now a.rows.now a.own.now) a.events.now a.gone.now a.out.now c.requires.0 c.requires.1 m.result m.ensures c.if-count-at.false
    x.result x.ensures (lent_all k.new.heads k.new.subs k.new.rows k.new.own) k.new.events k.new.gone k.ensures.0 k.ensures.1 c.after_call-reading.ensures
