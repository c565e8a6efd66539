use mathlib.Core.Path.{subst}
use lib.ListN.{length}
use Rattle.definition_station.specs.Layout.{buffer_station_step}
use Rattle.definition_station.specs.Called.{StationCalled}
use Rattle.calls.specs.declared.Call.{Call}
use Rattle.stationcalls.specs.Parts.{lent_all}
use Rattle.stationrun.specs.StationRuns.{file_place}
use Rattle.stationrun.proofs.Starts.{start-called}
use Rattle.stationrun.proofs.Called.{station-called}
use Rattle.stationrun.proofs.one_call.Goals as goal

pub returns-then-code-eq-START : goal.returns-then-code-eq-START
returns-then-code-eq-START c = let a = c.args in
    start-called a.c (lent_all a.heads.now a.subs.now a.rows.now a.own.now) a.events.now c.if-code-eq-START.true c.start-refusal.ensures

pub returns : goal.returns
returns c = let a = c.args in
    let k = c.call in
    station-called a.c (lent_all a.heads.now a.subs.now a.rows.now a.own.now) (lent_all k.new.heads k.new.subs k.new.rows k.new.own) a.events.now k.new.events k.result c.if-code-eq-START.false (subst (λ (p : Call). StationCalled (buffer_station_step (lent_all a.heads.now a.subs.now a.rows.now a.own.now) (length a.events.now) (file_place a.c) p.code p.words) (file_place a.c) p.code p.words (lent_all a.heads.now a.subs.now a.rows.now a.own.now) (lent_all k.new.heads k.new.subs k.new.rows k.new.own) a.events.now k.new.events k.result.refusal k.result.answer k.result.events) c.new-plain.ensures k.ensures)
