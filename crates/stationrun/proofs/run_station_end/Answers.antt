use mathlib.Core.Path.{sym, ◌∙◌}
use Rattle.stationcalls.specs.Parts.{lent_all}
use borrow.Author.Tests.{not-true, not-false}
use Rattle.definition_station.specs.Layout.{station_view}
use Rattle.stationrun.specs.StationFiles.{counted_lines, station_tail, last_station}
use Rattle.stationrun.proofs.Ends.{longs, no-last-room, short-last, lines-room, last-put}
use native.Mathlib.Omega.{arith}
use Rattle.stationrun.proofs.run_station_end.Goals as goal

pub returns-then-out-lt-LAST : goal.returns-then-out-lt-LAST
unfolding last_station station_tail
returns-then-out-lt-LAST c =
    let a = c.args in
    let b = lent_all a.heads.now a.subs.now a.rows.now a.own.now in
    no-last-room 1408 b a.events.now a.at a.failed (counted_lines 0 (station_view b).slots) a.out.now c.if-out-lt-LAST.true

pub returns-then-not-whole : goal.returns-then-not-whole
unfolding last_station station_tail
returns-then-not-whole c =
    let a = c.args in
    let b = lent_all a.heads.now a.subs.now a.rows.now a.own.now in
    short-last 1408 b a.events.now a.at a.failed (counted_lines 0 (station_view b).slots) a.out.now
    (not-false _ (sym c.whole.ensures ∙ not-true _ c.if-not-whole.true-raw))

pub bounds-own-16 : goal.bounds-own-16
bounds-own-16 c =
    let a = c.args in
    omega (arith, (longs (lent_all a.heads.now a.subs.now a.rows.now a.own.now) a.events.now (not-true _ (sym c.whole.ensures ∙ not-false _ c.if-not-whole.false-raw))).1)

pub bounds-own-17 : goal.bounds-own-17
bounds-own-17 c =
    let a = c.args in
    omega (arith, (longs (lent_all a.heads.now a.subs.now a.rows.now a.own.now) a.events.now (not-true _ (sym c.whole.ensures ∙ not-false _ c.if-not-whole.false-raw))).1)

pub put_counts-to-requires : goal.put_counts-to-requires
put_counts-to-requires c =
    let a = c.args in
    let b = lent_all a.heads.now a.subs.now a.rows.now a.own.now in
    let l = longs b a.events.now (not-true _ (sym c.whole.ensures ∙ not-false _ c.if-not-whole.false-raw)) in (
      l.0,
      l.1,
      lines-room 1408 b a.events.now a.at a.failed (counted_lines 0 (station_view b).slots) a.out.now 1024 (omega arith)
          c.if-out-lt-LAST.false c.rest_line-from.ensures 1152 (omega arith),
    )

pub returns : goal.returns
unfolding last_station station_tail station_view
returns c =
    let a = c.args in
    let b = lent_all a.heads.now a.subs.now a.rows.now a.own.now in
    last-put 1408 b a.events.now a.at a.failed (counted_lines 0 (station_view b).slots) a.out.now 1024 (omega arith)
    c.if-out-lt-LAST.false c.rest_line-from.ensures (not-true _ (sym c.whole.ensures ∙ not-false _ c.if-not-whole.false-raw))
    c.put_counts-to.ensures c.held_bytes-bytes.result c.held_bytes-bytes.ensures c.put_station.ensures
