use mathlib.Core.Path.{refl, sym, ◌∙◌}
use Prim.Native.Nat.{◌+◌, ◌≤◌, ◌<◌, min}
use native.Mathlib.Nat.{zero-add}
use native.Mathlib.Omega.{arith}
use borrow.Author.Rules.{rules}
use lib.ListN.{length}
use Rattle.state.specs.Fits.{Fits}
use Rattle.state.proofs.Fitting.{fits-facts}
use Rattle.engine.proofs.Shares.{taken_none, turn-rows, turn-own, turn-got, turn-taken}
use Rattle.engine.proofs.storing.taken_from.Goals as goal
use Rattle.engine.proofs.storing.taken_from.Goals.{After-count_from-count, After-load-s, After-own_of, Start}

facts : (c : Start) → Fits c.args.subs.now c.args.d (length c.args.rows.now) 545
facts c = fits-facts c.args.subs.now c.args.d (length c.args.rows.now) 545 c.requires

there : (c : After-load-s) → let a = c.args in c.loop-i.i < min a.d.consumers (length a.subs.now)
there c =
    let f = facts c.before.before.before in
    omega (arith, f.consumers, f.subs-long, c.loop-i-test.true)

among : (c : After-load-s) → c.loop-i.base + (c.load-s.result.inflight + c.load-s.result.held) ≤ 512
among c =
    let l = c.loop-i in
    let a = c.args in
    let f = facts c.before.before.before in
    let t = turn-rows a.conn a.d.queue l.i a.d.consumers a.subs.now a.rows.now l.base _ 0 c.load-s.result (there c) c.load-s.ensures refl in
    omega (arith, t, l.invariant.2, f.rows-used, f.used)

few : (c : After-own_of) → c.own_of.result ≤ c.load-s.result.inflight + c.load-s.result.held
few c =
    let l = c.loop-i in
    let a = c.args in
    turn-own a.conn a.d.queue l.i a.d.consumers a.subs.now a.rows.now l.base _ 0 c.load-s.result (there c.before) c.load-s.ensures c.own_of.ensures

fewer : (c : After-count_from-count) → c.count_from-count.result ≤ c.own_of.result
fewer c =
    let l = c.loop-i in
    let a = c.args in
    let f = facts c.before.before.before.before.before in
    turn-got a.conn a.d.queue l.i a.d.consumers a.subs.now a.rows.now l.base _ _ c.load-s.result (there c.before.before) c.load-s.ensures c.own_of.ensures c.count_from-count.ensures
    (omega (arith, few c.before, among c.before.before, f.rows_long))

pub loop-i-init : goal.loop-i-init
loop-i-init c = (search rules, search rules, zero-add _, zero-add _)

pub own_of-requires : goal.own_of-requires
own_of-requires c = omega (arith, among (goal.at.own_of-requires c).After-load-s)

pub overflow_add-base : goal.overflow_add-base
overflow_add-base c = omega (arith, few (goal.at.overflow_add-base c).After-own_of, among (goal.at.overflow_add-base c).After-load-s)

pub count_from-count-requires : goal.count_from-count-requires
count_from-count-requires c = (omega arith, omega (arith, few (goal.at.count_from-count-requires c).After-own_of, among (goal.at.count_from-count-requires c).After-load-s, (facts (goal.at.count_from-count-requires c).Start).rows_long))

pub overflow_add-count : goal.overflow_add-count
overflow_add-count c = omega (arith, fewer (goal.at.overflow_add-count c).After-count_from-count, few (goal.at.overflow_add-count c).After-own_of, among (goal.at.overflow_add-count c).After-load-s, c.loop-i.invariant.1)

pub overflow_add-base-in-loop-i : goal.overflow_add-base-in-loop-i
overflow_add-base-in-loop-i c = omega (arith, among (goal.at.overflow_add-base-in-loop-i c).After-load-s)

pub overflow_add-base-in-loop-i-2 : goal.overflow_add-base-in-loop-i-2
overflow_add-base-in-loop-i-2 c = omega (arith, among (goal.at.overflow_add-base-in-loop-i-2 c).After-load-s)

pub loop-i-preserved : goal.loop-i-preserved
loop-i-preserved c =
    let l = c.loop-i in
    let a = c.args in
    let r = c.load-s in
    let t = turn-rows a.conn a.d.queue l.i a.d.consumers a.subs.now a.rows.now l.base _ 0 r.result (there (goal.at.loop-i-preserved c).After-load-s) r.ensures c.own_of.ensures in
    let k = turn-taken a.conn a.d.queue l.i a.d.consumers a.subs.now a.rows.now l.base _ _ r.result (there (goal.at.loop-i-preserved c).After-load-s) r.ensures c.own_of.ensures c.count_from-count.ensures l.count in (
      omega (arith, there (goal.at.loop-i-preserved c).After-load-s),
      omega (arith, l.invariant.1, fewer (goal.at.loop-i-preserved c).After-count_from-count, few (goal.at.loop-i-preserved c).After-own_of),
      sym t ∙ l.invariant.2,
      sym k ∙ l.invariant.3,
    )

pub returns : goal.returns
returns c =
    let l = c.loop-i in
    let a = c.args in
    omega (arith, taken_none a.conn a.d.queue l.i a.d.consumers a.subs.now a.rows.now l.base (omega (arith, c.loop-i-test.false)), l.invariant.3)
