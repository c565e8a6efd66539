use mathlib.Core.List.{[]}
use Rattle.definition_station.specs.Layout.{StationBuffers}
use Rattle.stationcalls.specs.Parts.{lent_all}
use Rattle.stationrun.specs.StationRuns.{station_by}
use Rattle.stationreport.proofs.FirstLines.{own_room, first-put}
use Rattle.stationreport.proofs.lines.put_first.Goals as goal

pub put_others-b-requires : goal.put_others-b-requires
put_others-b-requires c =
    let a = c.args in
    (c.requires.within.0, c.requires.within.1, c.requires.events_bound.3, own_room a.index a.number a.code a.words a.r.refusal c.ways_at-w.result c.requires.within.2 c.put_turn-a.ensures)

pub returns : goal.returns
returns c =
    let a = c.args in
    let b : StationBuffers = lent_all a.heads.now a.subs.now a.rows.now a.own.now in
    first-put a.index a.number a.code a.words a.r.refusal c.ways_at-w.result c.requires.within.2 c.put_turn-a.ensures
    (station_by b []) c.ways_at-w.ensures c.is_queue-queue.result c.is_queue-queue.ensures a.events.now a.told.now a.r.events a.r.letters c.requires.events_bound.0 c.requires.events_bound.2
    c.put_others-b.ensures c.put_brought-c.ensures c.put_all_sent-d.ensures c.put_told.ensures
