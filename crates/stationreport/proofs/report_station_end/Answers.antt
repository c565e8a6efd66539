use mathlib.Core.Path.{sym, ◌∙◌}
use mathlib.Core.List.{[]}
use Rattle.stationcalls.specs.Parts.{lent_all}
use borrow.Author.Tests.{not-true, not-false}
use Rattle.definition_station.specs.Layout.{station_view}
use Rattle.stationrun.proofs.Ends.{longs, no-last-room, short-last, lines-room, last-put}
use Rattle.stationreport.specs.StationReporting.{places_text, noted_by}
use Rattle.stationreport.specs.StationReportFiles.{place_tail, station_report_tail, last_station_report}
use native.Mathlib.Omega.{arith}
use Rattle.stationreport.proofs.report_station_end.Goals as goal

pub returns-then-out-lt-LAST : goal.returns-then-out-lt-LAST
unfolding last_station_report station_report_tail
returns-then-out-lt-LAST c =
    let a = c.args in
    let b = lent_all a.heads.now a.subs.now a.rows.now a.own.now in
    no-last-room 528640 b a.events.now a.at a.failed (places_text (place_tail (noted_by b [] a.gone.now)) 0 8) a.out.now c.if-out-lt-LAST.true

pub returns-then-not-whole : goal.returns-then-not-whole
unfolding last_station_report station_report_tail
returns-then-not-whole c =
    let a = c.args in
    let b = lent_all a.heads.now a.subs.now a.rows.now a.own.now in
    short-last 528640 b a.events.now a.at a.failed (places_text (place_tail (noted_by b [] a.gone.now)) 0 8) a.out.now
    (not-false _ (sym c.whole.ensures ∙ not-true _ c.if-not-whole.true-raw))

pub bounds-own-16 : goal.bounds-own-16
bounds-own-16 c =
    let a = c.args in
    omega (arith, (longs (lent_all a.heads.now a.subs.now a.rows.now a.own.now) a.events.now (not-true _ (sym c.whole.ensures ∙ not-false _ c.if-not-whole.false-raw))).1)

pub bounds-own-17 : goal.bounds-own-17
bounds-own-17 c =
    let a = c.args in
    omega (arith, (longs (lent_all a.heads.now a.subs.now a.rows.now a.own.now) a.events.now (not-true _ (sym c.whole.ensures ∙ not-false _ c.if-not-whole.false-raw))).1)

pub put_tails-to-requires : goal.put_tails-to-requires
put_tails-to-requires c =
    let a = c.args in
    let b = lent_all a.heads.now a.subs.now a.rows.now a.own.now in
    let l = longs b a.events.now (not-true _ (sym c.whole.ensures ∙ not-false _ c.if-not-whole.false-raw)) in (
      l.0,
      l.1,
      lines-room 528640 b a.events.now a.at a.failed (places_text (place_tail (noted_by b [] a.gone.now)) 0 8) a.out.now 527360 (omega arith)
          c.if-out-lt-LAST.false c.rest_line-from.ensures 527744 (omega arith),
    )

pub returns : goal.returns
unfolding last_station_report station_report_tail station_view
returns c =
    let a = c.args in
    let b = lent_all a.heads.now a.subs.now a.rows.now a.own.now in
    last-put 528640 b a.events.now a.at a.failed (places_text (place_tail (noted_by b [] a.gone.now)) 0 8) a.out.now 527360 (omega arith)
    c.if-out-lt-LAST.false c.rest_line-from.ensures (not-true _ (sym c.whole.ensures ∙ not-false _ c.if-not-whole.false-raw))
    c.put_tails-to.ensures c.held_bytes-bytes.result c.held_bytes-bytes.ensures c.put_station.ensures
