use native.Mathlib.Omega.{arith}
use Rattle.definition_station.specs.Layout.{StationBuffers}
use Rattle.stationcalls.specs.Parts.{lent_all}
use Rattle.stationrun.proofs.Ends.{longs}
use Rattle.stationreport.proofs.Noted.{got-words, long_after, rows-after, sound-after, refused-notes, accepted-notes}
use borrow.Author.Rules.{rules}
use Rattle.stationreport.proofs.report_call.Goals as goal

pub bounds-own-16 : goal.bounds-own-16
bounds-own-16 c =
    let a = c.args in
    let b : StationBuffers = lent_all a.heads.now a.subs.now a.rows.now a.own.now in
    omega (arith, (longs b a.events.now c.requires.0).1)

pub hold_all-requires : goal.hold_all-requires
hold_all-requires c =
    let a = c.args in
    let b : StationBuffers = lent_all a.heads.now a.subs.now a.rows.now a.own.now in
    let l = longs b a.events.now c.requires.0 in
    (l.0, l.1, search rules, search rules)

pub put_first-at-requires : goal.put_first-at-requires
put_first-at-requires c =
    let k = c.call_told-r.ensures in
    let l = long_after k c.requires.0 in record { within = (l.0, l.1, c.requires.2); events_bound = rows-after k c.requires.0 }

pub returns-then-refusal-ne0 : goal.returns-then-refusal-ne0
returns-then-refusal-ne0 c =
    let a = c.args in
    let b : StationBuffers = lent_all a.heads.now a.subs.now a.rows.now a.own.now in
    let p = c.put_first-at.ensures in
    (refused-notes c.call_told-r.ensures a.index (got-words a.c b a.events.now c.words_got-words.ensures) p.0 a.gone.now c.if-refusal-ne0.true, omega (arith, p.1))

pub slice_bounds-put_rest-end : goal.slice_bounds-put_rest-end
slice_bounds-put_rest-end c =
    omega (arith, c.hold_all.ensures.few-held.lists_length)

pub slice_bounds-put_rest-end-2 : goal.slice_bounds-put_rest-end-2
slice_bounds-put_rest-end-2 c =
    omega (arith, c.hold_all.ensures.few-held.counts-length)

pub put_rest-requires : goal.put_rest-requires
put_rest-requires c =
    let k = c.call_told-r.ensures in
    let p = c.put_first-at.ensures in
    let l = long_after k c.requires.0 in
    let n = rows-after k c.requires.0 in record { within = (l.0, l.1, sound-after k c.if-refusal-ne0.false); few_held = (c.hold_all.ensures.few-held, n.2, n.3, c.requires.1, omega (arith, c.requires.2, p.0.same, p.1)) }

pub shape_of-heads : goal.shape_of-heads
shape_of-heads c =
    c.call_told-r.ensures.called.left.past.heads-length

pub shape_of-subs : goal.shape_of-subs
shape_of-subs c =
    c.call_told-r.ensures.called.left.past.subs-length

pub shape_of-rows : goal.shape_of-rows
shape_of-rows c =
    c.call_told-r.ensures.called.left.past.rows-length

pub shape_of-own : goal.shape_of-own
shape_of-own c =
    c.call_told-r.ensures.called.left.own-length

pub returns : goal.returns
returns c =
    let a = c.args in
    let b : StationBuffers = lent_all a.heads.now a.subs.now a.rows.now a.own.now in
    let k = c.hold_all in
    let p = c.put_rest.ensures in
    let got = got-words a.c b a.events.now c.words_got-words.ensures in
    let first = c.put_first-at.ensures in (
      accepted-notes c.call_told-r.ensures a.index got first.0 c.if-refusal-ne0.false k.new.lists k.new.counts k.ensures c.requires.0 a.gone.now c.requires.1 p.puts.0 p.gone_after,
      omega (arith, p.puts.1, first.1),
    )
