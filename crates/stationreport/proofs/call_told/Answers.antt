use Prim.Native.Nat.{ℕ}
use mathlib.Core.Path.{subst}
use lib.ListN.{length}
use Rattle.definition_station.specs.Layout.{StationBuffers, station_view, buffer_station_step}
use Rattle.definition_station.specs.Called.{StationCalled}
use Rattle.calls.specs.declared.Call.{Call}
use Rattle.stationcalls.specs.Parts.{lent_all}
use Rattle.stationcalls.specs.Tells.{told_rows, StationTells}
use Rattle.stationrun.specs.StationRuns.{file_place}
use Rattle.stationrun.proofs.Starts.{start-called}
use Rattle.stationreport.proofs.CalledTold.{start-told, station-told}
use Rattle.stationreport.proofs.call_told.Goals as goal

pub returns-then-code-eq-START : goal.returns-then-code-eq-START
returns-then-code-eq-START c =
    let a = c.args in
    let b : StationBuffers = lent_all a.heads.now a.subs.now a.rows.now a.own.now in
    let k = c.start-refusal in
    let is-start = c.if-code-eq-START.true in
    start-told a.c b (lent_all a.heads.now a.subs.now a.rows.now k.new.own) a.events.now a.told.now k.result is-start c.requires (start-called a.c b a.events.now is-start k.ensures)

pub returns : goal.returns
returns c =
    let a = c.args in
    let k = c.call_told in
    let l = k.new in
    let plain = c.new-plain.ensures in
    let b : StationBuffers = lent_all a.heads.now a.subs.now a.rows.now a.own.now in
    let events = a.events.now in
    let n : ℕ = length events in
    let b' : StationBuffers = lent_all l.heads l.subs l.rows l.own in
    let events' = l.events in
    let told' = l.told in
    station-told a.c b b' events events' a.told.now told' k.result c.if-code-eq-START.false c.requires
    (subst (λ (p : Call). StationCalled (buffer_station_step b n (file_place a.c) p.code p.words) (file_place a.c) p.code p.words b b' events events' k.result.refusal k.result.answer k.result.events) plain k.ensures.station_called)
    (subst (λ (p : Call). StationTells (buffer_station_step b n (file_place a.c) p.code p.words) (told_rows (file_place a.c) p.code p.words (station_view b)) a.told.now told' k.result.letters) plain k.ensures.station_tells)
