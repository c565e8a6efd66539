use lib.ListN.{length}
use Rattle.definition_station.specs.Layout.{station_lengths_of}
use Rattle.stationcalls.specs.Parts.{lent_all}
use Rattle.stationrun.specs.StationRuns.{station_by, station_call, StationKeeps}
use Rattle.stationrun.proofs.CallSteps.{none-there}
use Rattle.stationrun.proofs.Stepped.{keeps-all, station-done}
use native.Mathlib.Omega.{arith}
use Rattle.stationrun.proofs.run_next.Goals as goal

pub returns-then-count-at : goal.returns-then-count-at
returns-then-count-at c = let a = c.args in
    let p = c.requires in
    let m = c.calls_in-count in
    let b = lent_all a.heads.now a.subs.now a.rows.now a.own.now in
    let e = a.events.now in
    none-there (station_call (station_lengths_of b (length e))) a.at a.from a.block.now (station_by b e) a.out.now m.result m.ensures (λ t. StationKeeps t b b e e) c.if-count-at.true (omega (arith, p.1)) c.put_bad-written.ensures c.ended.ensures (keeps-all b e)

pub run_call-written-requires : goal.run_call-written-requires
run_call-written-requires c = c.requires.1

pub returns : goal.returns
returns c = let a = c.args in
    let p = c.requires in
    let m = c.calls_in-count in
    let x = c.call_at-c in
    let k = c.run_call-written in
    station-done a.at a.from a.block.now (lent_all a.heads.now a.subs.now a.rows.now a.own.now) a.events.now a.out.now p.0 p.1 m.result m.ensures c.if-count-at.false x.result x.ensures (lent_all k.new.heads k.new.subs k.new.rows k.new.own) k.new.events k.ensures.0 k.ensures.1 c.after_call-reading.ensures
