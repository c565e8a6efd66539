use mathlib.Core.Path.{◌≡◌, sym, ◌∙◌}
use mathlib.Core.Bool.{true, ◌&&◌}
use borrow.Author.Tests.{not-true, not-false}
use lib.ListN.{length}
use Rattle.definition_station.specs.Layout.{station_lengths_of}
use Rattle.stationcalls.specs.Parts.{lent_all}
use Rattle.stationrun.specs.CallSteps.{step_roomy}
use Rattle.stationrun.proofs.CallSteps.{is-fit, fits-block, text-room, not-read, within-piece, few-read, fill-read, call-read}
use Rattle.stationreport.specs.StationReporting.{station_report_call, noted_by}
use Rattle.stationreport.specs.StationReportFiles.{ReportKeeps, report_fit}
use Rattle.stationreport.proofs.Reported.{fit-eight, fit-long, report-keeps-all}
use native.Mathlib.Omega.{arith}
use Rattle.stationreport.proofs.report_station_step.Goals as goal

pub returns-then-not-roomy : goal.returns-then-not-roomy
returns-then-not-roomy c =
    let a = c.args in
    let b = lent_all a.heads.now a.subs.now a.rows.now a.own.now in
    let v = a.events.now in
    let g = a.gone.now in
    let l = station_lengths_of b (length v) in
    not-read (station_report_call l) 1740800 (report_fit l (length g)) a.at a.piece.now a.from (noted_by b v g) a.block.now a.out.now (sym c.roomy.ensures ∙ not-true _ c.if-not-roomy.true-raw)
    c.unread-t.ensures c.with_run.ensures (ReportKeeps b b v v g g) (report-keeps-all b v g)

pub overflow_add-have : goal.overflow_add-have
overflow_add-have c =
    let a = c.args in
    let b = lent_all a.heads.now a.subs.now a.rows.now a.own.now in
    let v = a.events.now in
    let g = a.gone.now in
    let l = station_lengths_of b (length v) in
    omega (
      arith,
      few-read (station_report_call l) 1740800 (report_fit l (length g)) a.at a.piece.now a.from (noted_by b v g) a.block.now a.out.now (sym c.roomy.ensures ∙ not-false _ c.if-not-roomy.false-raw)
          c.if-reading-lt-BLOCK.true c.fill-n.ensures,
    )

pub overflow_add-next : goal.overflow_add-next
overflow_add-next c =
    let a = c.args in
    omega (arith, c.well_formed.1.1.1.1.1.1.1.1.0, within-piece a.at.reading.have a.from a.piece.now a.block.now c.fill-n.ensures)

pub returns-then-reading-lt-BLOCK : goal.returns-then-reading-lt-BLOCK
returns-then-reading-lt-BLOCK c =
    let a = c.args in
    let b = lent_all a.heads.now a.subs.now a.rows.now a.own.now in
    let v = a.events.now in
    let g = a.gone.now in
    let l = station_lengths_of b (length v) in
    fill-read (station_report_call l) 1740800 (report_fit l (length g)) a.at a.piece.now a.from (noted_by b v g) a.block.now a.out.now (sym c.roomy.ensures ∙ not-false _ c.if-not-roomy.false-raw)
    c.if-reading-lt-BLOCK.true c.fill-n.ensures c.begun-t.ensures c.with_run-then-reading-lt-BLOCK.ensures (ReportKeeps b b v v g g) (report-keeps-all b v g)

pub report_next-requires : goal.report_next-requires
report_next-requires c =
    let a = c.args in
    let b = lent_all a.heads.now a.subs.now a.rows.now a.own.now in
    let v = a.events.now in
    let g = a.gone.now in
    let l = station_lengths_of b (length v) in
    let o = a.out.now in
    let fit = report_fit l (length g) in
    let e : ((fit && step_roomy 1740800 a.at.reading a.block.now o) && a.at.reading.goes_on) ≡ true = sym c.roomy.ensures ∙ not-false _ c.if-not-roomy.false-raw in
    let f = is-fit 1740800 fit a.at.reading a.block.now o e in
    (fits-block 1740800 fit a.at.reading a.block.now o e, text-room 1740800 fit a.at.reading a.block.now o e, fit-eight l (length g) f, fit-long l (length g) f)

pub returns : goal.returns
returns c =
    let a = c.args in
    let b = lent_all a.heads.now a.subs.now a.rows.now a.own.now in
    let v = a.events.now in
    let g = a.gone.now in
    let l = station_lengths_of b (length v) in
    call-read (station_report_call l) 1740800 (report_fit l (length g)) a.at a.piece.now a.from (noted_by b v g) a.block.now a.out.now (sym c.roomy.ensures ∙ not-false _ c.if-not-roomy.false-raw)
    c.if-reading-lt-BLOCK.false c.report_next.ensures
