use mathlib.Core.Path.{sym, ap, ◌∙◌, subst}
use Rattle.stats.specs.Counted.{with_discarded_by}
use Rattle.state.specs.declared.Head.{Head}
use Rattle.state.specs.State.{with_counters}
use Rattle.engine.specs.Storing.{spread}
use Rattle.engine.specs.Arrivals.{Arrived}
use Rattle.engine.proofs.Round.{round-first, round-fine, round-few, round-turn, round-end}
use native.Mathlib.Omega.{arith}
use Rattle.engine.proofs.fanning.fan_out_all.Goals as goal

pub loop-i-init : goal.loop-i-init
loop-i-init c = let a = c.args in round-first a.by a.e a.subs.now a.rows.now a.before c.requires.0 c.requires.1 c.requires.2

pub fan_out-r-requires : goal.fan_out-r-requires
fan_out-r-requires c =
    let l = c.loop-i in
    let a = c.args in
    let pre = c.requires in
    round-fine a.by a.e a.subs.now a.rows.now a.before pre.0 pre.1 pre.2 l.subs l.rows l.used l.expired l.over l.base l.i l.invariant c.loop-i-test.true _ c.load-s.ensures

pub overflow_add-expired : goal.overflow_add-expired
overflow_add-expired c =
    let l = c.loop-i in
    let a = c.args in
    let pre = c.requires in
    let f = round-few a.by a.e a.subs.now a.rows.now a.before pre.0 pre.1 pre.2 l.subs l.rows l.used l.expired l.over l.base l.i l.invariant c.loop-i-test.true _ _ c.load-s.ensures c.fan_out-r.ensures.value in
    omega (arith, f.1)

pub overflow_add-over : goal.overflow_add-over
overflow_add-over c =
    let l = c.loop-i in
    let a = c.args in
    let pre = c.requires in
    let f = round-few a.by a.e a.subs.now a.rows.now a.before pre.0 pre.1 pre.2 l.subs l.rows l.used l.expired l.over l.base l.i l.invariant c.loop-i-test.true _ _ c.load-s.ensures c.fan_out-r.ensures.value in
    omega (arith, f.2)

pub overflow_add-base : goal.overflow_add-base
overflow_add-base c =
    let l = c.loop-i in
    let a = c.args in
    let pre = c.requires in
    let f = round-few a.by a.e a.subs.now a.rows.now a.before pre.0 pre.1 pre.2 l.subs l.rows l.used l.expired l.over l.base l.i l.invariant c.loop-i-test.true _ _ c.load-s.ensures c.fan_out-r.ensures.value in
    omega (arith, f.0)

pub overflow_add-base-in-loop-i : goal.overflow_add-base-in-loop-i
overflow_add-base-in-loop-i c =
    let l = c.loop-i in
    let a = c.args in
    let pre = c.requires in
    let f = round-few a.by a.e a.subs.now a.rows.now a.before pre.0 pre.1 pre.2 l.subs l.rows l.used l.expired l.over l.base l.i l.invariant c.loop-i-test.true _ _ c.load-s.ensures c.fan_out-r.ensures.value in
    omega (arith, f.0)

pub loop-i-preserved : goal.loop-i-preserved
loop-i-preserved c =
    let l = c.loop-i in
    let a = c.args in
    let pre = c.requires in
    let r = c.fan_out-r.ensures in
    round-turn a.by a.e a.subs.now a.rows.now a.before pre.0 pre.1 pre.2 l.subs l.rows l.used l.expired l.over l.base l.i l.invariant c.loop-i-test.true _ _ _ _ c.load-s.ensures r.value r.rows_after c.store.ensures

pub returns : goal.returns
returns c =
    let l = c.loop-i in
    let a = c.args in
    let pre = c.requires in
    let counted = c.count_discarded.ensures ∙ ap (λ (x : Head). with_counters (with_discarded_by x.stats l.over) x) c.count_expired.ensures in
    subst (λ (x : Head). Arrived (spread a.by a.e) a.before x a.subs.now a.rows.now l.subs l.rows) (sym counted)
    (round-end a.by a.e a.subs.now a.rows.now a.before pre.0 pre.1 pre.2 l.subs l.rows l.used l.expired l.over l.base l.i l.invariant c.loop-i-test.false)
