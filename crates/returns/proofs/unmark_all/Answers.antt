use mathlib.Core.Path.{◌≡◌}
use Prim.Native.Nat.{◌+◌}
use native.Mathlib.Omega.{arith}
use Rattle.returns.proofs.Unmarking.{unmarking-start, unmarking-room, unmarking-turn, unmarking-leaves}
use Rattle.returns.proofs.unmark_all.Goals as goal

pub loop-i-init : goal.loop-i-init
loop-i-init c = let a = c.args in unmarking-start a.id a.d.consumers a.subs.now a.rows.now

pub unmark_one-requires : goal.unmark_one-requires
unmark_one-requires c =
    let l = c.loop-i in
    let a = c.args in
    let r = unmarking-room a.id a.d a.subs.now a.rows.now c.requires l.i l.base l.rows l.invariant c.loop-i-test.true c.load-s.result c.load-s.ensures in
    omega (arith, r)

pub overflow_add-base : goal.overflow_add-base
overflow_add-base c =
    let l = c.loop-i in
    let a = c.args in
    let r = unmarking-room a.id a.d a.subs.now a.rows.now c.requires l.i l.base l.rows l.invariant c.loop-i-test.true c.load-s.result c.load-s.ensures in
    record { fits = omega (arith, r) }

pub overflow_add-base-in-loop-i : goal.overflow_add-base-in-loop-i
overflow_add-base-in-loop-i c =
    let l = c.loop-i in
    let a = c.args in
    let r = unmarking-room a.id a.d a.subs.now a.rows.now c.requires l.i l.base l.rows l.invariant c.loop-i-test.true c.load-s.result c.load-s.ensures in
    record { fits = omega (arith, r) }

pub loop-i-preserved : goal.loop-i-preserved
loop-i-preserved c =
    let l = c.loop-i in
    let a = c.args in
    let s = c.load-s.result in
    let e : l.base + (s.inflight + s.held) ≡ l.base + s.inflight + s.held = omega arith in
    rw e (unmarking-turn a.id a.d a.subs.now a.rows.now c.requires l.i l.base l.rows l.invariant c.loop-i-test.true s c.load-s.ensures _ c.unmark_one.ensures)

pub returns : goal.returns
returns c =
    let l = c.loop-i in
    let a = c.args in
    λ events. unmarking-leaves a.id a.d a.subs.now a.rows.now c.requires l.i l.base l.rows events l.invariant c.loop-i-test.false
