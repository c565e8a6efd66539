use mathlib.Core.Path.{◌≡◌, sym, ◌∙◌}
use mathlib.Core.Bool.{true, ◌&&◌}
use borrow.Author.Tests.{not-true, not-false}
use lib.ListN.{length}
use Rattle.definition_station.specs.Layout.{station_lengths_of}
use Rattle.stationcalls.specs.Parts.{lent_all}
use Rattle.stationrun.specs.StationRuns.{station_by, station_call, StationKeeps}
use Rattle.stationrun.specs.CallSteps.{step_roomy}
use Rattle.stationrun.proofs.CallSteps.{fits-block, text-room, not-read, within-piece, few-read, fill-read, call-read}
use Rattle.stationrun.proofs.Stepped.{keeps-all}
use native.Mathlib.Omega.{arith}
use Rattle.stationrun.proofs.run_station_step.Goals as goal

pub returns-then-not-goes : goal.returns-then-not-goes
returns-then-not-goes c = let a = c.args in
    let b = lent_all a.heads.now a.subs.now a.rows.now a.own.now in
    let v = a.events.now in
    not-read (station_call (station_lengths_of b (length v))) 623872 true a.at a.piece.now a.from (station_by b v) a.block.now a.out.now (sym c.goes.ensures ∙ not-true _ c.if-not-goes.true-raw) c.unread-t.ensures c.with_run.ensures (λ t. StationKeeps t b b v v) (keeps-all b v)

pub overflow_add-have : goal.overflow_add-have
overflow_add-have c = let a = c.args in
    let b = lent_all a.heads.now a.subs.now a.rows.now a.own.now in
    let v = a.events.now in
    omega (arith, few-read (station_call (station_lengths_of b (length v))) 623872 true a.at a.piece.now a.from (station_by b v) a.block.now a.out.now (sym c.goes.ensures ∙ not-false _ c.if-not-goes.false-raw) c.if-reading-lt-BLOCK.true c.fill-n.ensures)

pub overflow_add-next : goal.overflow_add-next
overflow_add-next c = let a = c.args in
    omega (arith, c.well_formed.1.1.1.1.1.1.1.0, within-piece a.at.reading.have a.from a.piece.now a.block.now c.fill-n.ensures)

pub returns-then-reading-lt-BLOCK : goal.returns-then-reading-lt-BLOCK
returns-then-reading-lt-BLOCK c = let a = c.args in
    let b = lent_all a.heads.now a.subs.now a.rows.now a.own.now in
    let v = a.events.now in
    fill-read (station_call (station_lengths_of b (length v))) 623872 true a.at a.piece.now a.from (station_by b v) a.block.now a.out.now (sym c.goes.ensures ∙ not-false _ c.if-not-goes.false-raw) c.if-reading-lt-BLOCK.true c.fill-n.ensures c.begun-t.ensures c.with_run-then-reading-lt-BLOCK.ensures (λ t. StationKeeps t b b v v) (keeps-all b v)

pub run_next-requires : goal.run_next-requires
run_next-requires c = let a = c.args in
    let e : (step_roomy 623872 a.at.reading a.block.now a.out.now && a.at.reading.goes_on) ≡ true = sym c.goes.ensures ∙ not-false _ c.if-not-goes.false-raw in
    (fits-block 623872 true a.at.reading a.block.now a.out.now e, text-room 623872 true a.at.reading a.block.now a.out.now e)

pub returns : goal.returns
returns c = let a = c.args in
    let b = lent_all a.heads.now a.subs.now a.rows.now a.own.now in
    let v = a.events.now in
    call-read (station_call (station_lengths_of b (length v))) 623872 true a.at a.piece.now a.from (station_by b v) a.block.now a.out.now (sym c.goes.ensures ∙ not-false _ c.if-not-goes.false-raw) c.if-reading-lt-BLOCK.false c.run_next.ensures
