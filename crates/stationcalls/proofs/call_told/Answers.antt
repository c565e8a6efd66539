use mathlib.Core.Path.{sym, ◌∙◌}
use native.Mathlib.Omega.{arith}
use borrow.Author.Tests.{not-true, not-false}
use lib.ListN.{length}
use Rattle.definition_station.specs.Layout.{station_view, buffer_station_step}
use Rattle.definition_station.proofs.Buffers.{heads-long, subs-long, rows_long, own-long}
use Rattle.stationcalls.specs.Parts.{lent_all}
use Rattle.stationcalls.specs.Tells.{told_rows}
use Rattle.stationcalls.proofs.Shape.{as-refused, left-short, left-unsound}
use Rattle.stationcalls.proofs.Going.{stops, goes_on}
use Rattle.stationcalls.proofs.Tells.{as_quiet, none-tells, quiet-tells-none, refused-quiet, left-away, rejecting-coded, there-is}
use Rattle.stationcalls.proofs.call_told.Goals as goal

pub returns-then-not-whole : goal.returns-then-not-whole
returns-then-not-whole c =
    let both = refused-quiet (buffer_station_step (lent_all c.args.heads.now c.args.subs.now c.args.rows.now c.args.own.now) (length c.args.events.now) c.args.number c.args.c.code c.args.c.words) c.args.number c.args.c.code c.args.c.words (lent_all c.args.heads.now c.args.subs.now c.args.rows.now c.args.own.now) (lent_all c.args.heads.now c.args.subs.now c.args.rows.now c.args.own.now) c.args.events.now c.args.events.now (told_rows c.args.number c.args.c.code c.args.c.words (station_view (lent_all c.args.heads.now c.args.subs.now c.args.rows.now c.args.own.now))) c.args.told.now 1 c.refused_for.result c.quiet.result c.quiet.ensures c.refused_for.ensures (omega arith) (as-refused (lent_all c.args.heads.now c.args.subs.now c.args.rows.now c.args.own.now) c.args.events.now c.args.number c.args.c.code c.args.c.words (buffer_station_step (lent_all c.args.heads.now c.args.subs.now c.args.rows.now c.args.own.now) (length c.args.events.now) c.args.number c.args.c.code c.args.c.words) 1 c.refused_for.result c.refused_for.ensures (left-short (lent_all c.args.heads.now c.args.subs.now c.args.rows.now c.args.own.now) c.args.events.now c.args.number c.args.c.code c.args.c.words (not-false _ (sym c.whole.ensures ∙ not-true _ c.if-not-whole.true-raw)))) in record { station_called = both.0; station_tells = both.1 }

pub stopped-requires : goal.stopped-requires
stopped-requires c =
    let a = c.args in
    let e = (not-true _ (sym c.whole.ensures ∙ not-false _ c.if-not-whole.false-raw)) in
    (record { is-place = omega arith; heads-long = heads-long (lent_all c.args.heads.now c.args.subs.now c.args.rows.now c.args.own.now) (length a.events.now) e; subs-long = subs-long (lent_all c.args.heads.now c.args.subs.now c.args.rows.now c.args.own.now) (length a.events.now) e; rows_long = rows_long (lent_all c.args.heads.now c.args.subs.now c.args.rows.now c.args.own.now) (length a.events.now) e }, own-long (lent_all c.args.heads.now c.args.subs.now c.args.rows.now c.args.own.now) (length a.events.now) e)

pub returns-then-stopped : goal.returns-then-stopped
returns-then-stopped c =
    let s = stops (lent_all c.args.heads.now c.args.subs.now c.args.rows.now c.args.own.now) c.args.number c.args.c.code (sym c.stopped.ensures ∙ c.if-stopped.true) in
    let both = refused-quiet (buffer_station_step (lent_all c.args.heads.now c.args.subs.now c.args.rows.now c.args.own.now) (length c.args.events.now) c.args.number c.args.c.code c.args.c.words) c.args.number c.args.c.code c.args.c.words (lent_all c.args.heads.now c.args.subs.now c.args.rows.now c.args.own.now) (lent_all c.args.heads.now c.args.subs.now c.args.rows.now c.args.own.now) c.args.events.now c.args.events.now (told_rows c.args.number c.args.c.code c.args.c.words (station_view (lent_all c.args.heads.now c.args.subs.now c.args.rows.now c.args.own.now))) c.args.told.now 2 c.refused_for-then-stopped.result c.quiet-then-stopped.result c.quiet-then-stopped.ensures c.refused_for-then-stopped.ensures (omega arith) (as-refused (lent_all c.args.heads.now c.args.subs.now c.args.rows.now c.args.own.now) c.args.events.now c.args.number c.args.c.code c.args.c.words (buffer_station_step (lent_all c.args.heads.now c.args.subs.now c.args.rows.now c.args.own.now) (length c.args.events.now) c.args.number c.args.c.code c.args.c.words) 2 c.refused_for-then-stopped.result c.refused_for-then-stopped.ensures (left-unsound (lent_all c.args.heads.now c.args.subs.now c.args.rows.now c.args.own.now) c.args.events.now c.args.number c.args.c.code c.args.c.words (not-true _ (sym c.whole.ensures ∙ not-false _ c.if-not-whole.false-raw)) s.is-place s.coded s.opened s.unsound)) in record { station_called = both.0; station_tells = both.1 }

pub absent-requires : goal.absent-requires
absent-requires c = own-long (lent_all c.args.heads.now c.args.subs.now c.args.rows.now c.args.own.now) (length c.args.events.now) (not-true _ (sym c.whole.ensures ∙ not-false _ c.if-not-whole.false-raw))

pub returns-then-absent : goal.returns-then-absent
returns-then-absent c =
    let both = refused-quiet (buffer_station_step (lent_all c.args.heads.now c.args.subs.now c.args.rows.now c.args.own.now) (length c.args.events.now) c.args.number c.args.c.code c.args.c.words) c.args.number c.args.c.code c.args.c.words (lent_all c.args.heads.now c.args.subs.now c.args.rows.now c.args.own.now) (lent_all c.args.heads.now c.args.subs.now c.args.rows.now c.args.own.now) c.args.events.now c.args.events.now (told_rows c.args.number c.args.c.code c.args.c.words (station_view (lent_all c.args.heads.now c.args.subs.now c.args.rows.now c.args.own.now))) c.args.told.now 10 c.refused_for-then-absent.result c.quiet-then-absent.result c.quiet-then-absent.ensures c.refused_for-then-absent.ensures (omega arith) (as-refused (lent_all c.args.heads.now c.args.subs.now c.args.rows.now c.args.own.now) c.args.events.now c.args.number c.args.c.code c.args.c.words (buffer_station_step (lent_all c.args.heads.now c.args.subs.now c.args.rows.now c.args.own.now) (length c.args.events.now) c.args.number c.args.c.code c.args.c.words) 10 c.refused_for-then-absent.result c.refused_for-then-absent.ensures (left-away (lent_all c.args.heads.now c.args.subs.now c.args.rows.now c.args.own.now) c.args.events.now c.args.number c.args.c.code c.args.c.words (not-true _ (sym c.whole.ensures ∙ not-false _ c.if-not-whole.false-raw)) (rejecting-coded c.args.c.code c.args.c.words (sym c.rejects.ensures ∙ c.if-rejects.true)) (sym c.absent.ensures ∙ c.if-absent.true))) in record { station_called = both.0; station_tells = both.1 }

pub reject-requires : goal.reject-requires
reject-requires c =
    let a = c.args in
    let coded = rejecting-coded a.c.code a.c.words (sym c.rejects.ensures ∙ c.if-rejects.true) in
    let there = there-is (lent_all c.args.heads.now c.args.subs.now c.args.rows.now c.args.own.now) a.number (sym c.absent.ensures ∙ c.if-absent.false) in
    let tested = goes_on (lent_all c.args.heads.now c.args.subs.now c.args.rows.now c.args.own.now) a.number a.c.code (sym c.stopped.ensures ∙ c.if-stopped.false) coded there.0 there.1 in
    (record { long = (not-true _ (sym c.whole.ensures ∙ not-false _ c.if-not-whole.false-raw)); is-place = there.0; opened = there.1; own-ok = tested.0; others = tested.1; coded = coded }, sym c.rejects.ensures ∙ c.if-rejects.true)

pub go-r-requires : goal.go-r-requires
go-r-requires c = record { long = (not-true _ (sym c.whole.ensures ∙ not-false _ c.if-not-whole.false-raw)); goes = sym c.stopped.ensures ∙ c.if-stopped.false }

pub returns : goal.returns
returns c =
    let both = as_quiet (buffer_station_step (lent_all c.args.heads.now c.args.subs.now c.args.rows.now c.args.own.now) (length c.args.events.now) c.args.number c.args.c.code c.args.c.words) c.args.number c.args.c.code c.args.c.words (lent_all c.args.heads.now c.args.subs.now c.args.rows.now c.args.own.now) (lent_all c.go-r.new.heads c.go-r.new.subs c.go-r.new.rows c.go-r.new.own) c.args.events.now c.go-r.new.events (told_rows c.args.number c.args.c.code c.args.c.words (station_view (lent_all c.args.heads.now c.args.subs.now c.args.rows.now c.args.own.now))) c.args.told.now c.go-r.result c.quiet-2.result c.quiet-2.ensures c.go-r.ensures (none-tells (buffer_station_step (lent_all c.args.heads.now c.args.subs.now c.args.rows.now c.args.own.now) (length c.args.events.now) c.args.number c.args.c.code c.args.c.words) (told_rows c.args.number c.args.c.code c.args.c.words (station_view (lent_all c.args.heads.now c.args.subs.now c.args.rows.now c.args.own.now))) c.args.told.now (quiet-tells-none c.args.number c.args.c.code c.args.c.words (station_view (lent_all c.args.heads.now c.args.subs.now c.args.rows.now c.args.own.now)) (sym c.rejects.ensures ∙ c.if-rejects.false))) in record { station_called = both.0; station_tells = both.1 }
