use Rattle.stationrun.proofs.Ends.{shut, opened}
use Rattle.stationreport.proofs.Places.{shut-tail, tail-put}
use native.Mathlib.Omega.{arith}
use Rattle.stationreport.proofs.put_tail.Goals as goal

pub returns-then-own-k-eq0 : goal.returns-then-own-k-eq0
returns-then-own-k-eq0 c =
    let a = c.args in
    shut-tail a.k a.heads.now a.subs.now a.rows.now a.own.now a.gone.now c.requires.0 a.at a.out.now (shut c.if-own-k-eq0.true)

pub overflow_mul-from : goal.overflow_mul-from
overflow_mul-from c = omega (arith, c.requires.0)

pub overflow_add-to : goal.overflow_add-to
overflow_add-to c = omega (arith, c.requires.0)

pub offset_bounds-heads-from : goal.offset_bounds-heads-from
offset_bounds-heads-from c = omega (arith, c.requires.0)

pub slice_bounds-counters-end : goal.slice_bounds-counters-end
slice_bounds-counters-end c = omega (arith, c.requires.0)

pub returns : goal.returns
returns c =
    let a = c.args in
    tail-put a.k a.heads.now a.subs.now a.rows.now a.own.now a.gone.now c.requires.0 a.at a.out.now (opened c.if-own-k-eq0.false) c.requires.2 _ c.shown_at-n.ensures
    c.ways-w.result c.ways-w.ensures c.counts_at-g.result c.counts_at-g.ensures c.put_blocks-a.ensures c.put_totals-b.ensures c.counters-s.result c.counters-s.ensures c.put_counted.ensures
