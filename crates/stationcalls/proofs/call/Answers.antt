use mathlib.Core.Path.{◌≡◌, sym, ◌∙◌}
use mathlib.Core.Bool.{false}
use native.Mathlib.Omega.{arith}
use borrow.Author.Tests.{not-true, not-false}
use lib.ListN.{length}
use Rattle.definition_station.specs.Station.{station_short}
use Rattle.definition_station.specs.Layout.{station_lengths_of, buffer_station_step}
use Rattle.definition_station.proofs.Buffers.{heads-long, subs-long, rows_long, own-long}
use Rattle.stationcalls.specs.Parts.{lent_all}
use Rattle.stationcalls.proofs.Shape.{as-refused, left-short, left-unsound}
use Rattle.stationcalls.proofs.Going.{stops}
use Rattle.stationcalls.proofs.call.Goals as goal

pub returns-then-not-whole : goal.returns-then-not-whole
returns-then-not-whole c =
    let a = c.args in
    let b = lent_all a.heads.now a.subs.now a.rows.now a.own.now in
    as-refused b a.events.now a.number a.c.code a.c.words (buffer_station_step b (length a.events.now) a.number a.c.code a.c.words) 1 c.refused_for.result c.refused_for.ensures (left-short b a.events.now a.number a.c.code a.c.words (not-false _ (sym c.whole.ensures ∙ not-true _ c.if-not-whole.true-raw)))

pub stopped-requires : goal.stopped-requires
stopped-requires c =
    let a = c.args in
    let b = lent_all a.heads.now a.subs.now a.rows.now a.own.now in
    let e : station_short (station_lengths_of b (length a.events.now)) ≡ false = not-true _ (sym c.whole.ensures ∙ not-false _ c.if-not-whole.false-raw) in
    (record { is-place = omega arith; heads-long = heads-long b (length a.events.now) e; subs-long = subs-long b (length a.events.now) e; rows_long = rows_long b (length a.events.now) e }, own-long b (length a.events.now) e)

pub returns-then-stopped : goal.returns-then-stopped
returns-then-stopped c =
    let a = c.args in
    let b = lent_all a.heads.now a.subs.now a.rows.now a.own.now in
    let s = stops b a.number a.c.code (sym c.stopped.ensures ∙ c.if-stopped.true) in
    as-refused b a.events.now a.number a.c.code a.c.words (buffer_station_step b (length a.events.now) a.number a.c.code a.c.words) 2 c.refused_for-then-stopped.result c.refused_for-then-stopped.ensures (left-unsound b a.events.now a.number a.c.code a.c.words (not-true _ (sym c.whole.ensures ∙ not-false _ c.if-not-whole.false-raw)) s.is-place s.coded s.opened s.unsound)

pub go-requires : goal.go-requires
go-requires c =
    record { long = not-true _ (sym c.whole.ensures ∙ not-false _ c.if-not-whole.false-raw); goes = sym c.stopped.ensures ∙ c.if-stopped.false }
