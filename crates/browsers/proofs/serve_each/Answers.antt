use Prim.Native.Nat.{◌-◌}
use native.Mathlib.Omega.{arith}
use borrow.Author.Tests.{not-true, not-false}
use Rattle.browsers.proofs.Round.{round-start, round-fine, round_room, round-pass, round-served, round-end}
use Rattle.browsers.proofs.serve_each.Goals as goal

pub loop-i-init : goal.loop-i-init
loop-i-init c = let a = c.args in round-start a.by a.subs.now a.rows.now a.events.now a.before c.requires.0

pub dispatch_browser-r-requires : goal.dispatch_browser-r-requires
dispatch_browser-r-requires c =
    let l = c.loop-i in
    let a = c.args in
    let pre = c.requires in
    round-fine a.by a.subs.now a.rows.now a.events.now a.before pre.0 l.subs l.rows l.events l.d l.base l.i l.invariant c.loop-i-test.true _ c.load-s.ensures (not-false _ c.if-not-s.false) pre.2

pub loop-i-preserved : goal.loop-i-preserved
loop-i-preserved c =
    let l = c.loop-i in
    let a = c.args in
    let pre = c.requires in
    let v = c.dispatch_browser-r in
    round-served a.by a.subs.now a.rows.now a.events.now a.before pre.0 l.subs l.rows l.events l.d l.base l.i l.invariant c.loop-i-test.true _ _ _ _ _ _ c.load-s.ensures (not-false _ c.if-not-s.false) c.store.ensures v.auto.rows v.auto.events v.ensures

pub overflow_add-base : goal.overflow_add-base
overflow_add-base c =
    let l = c.loop-i in
    let a = c.args in
    let pre = c.requires in
    omega (arith, round_room a.by a.subs.now a.rows.now a.events.now a.before pre.0 l.subs l.rows l.events l.d l.base l.i l.invariant c.loop-i-test.true _ c.load-s.ensures)

pub overflow_add-base-then-not-s : goal.overflow_add-base-then-not-s
overflow_add-base-then-not-s c =
    let l = c.loop-i in
    let a = c.args in
    let pre = c.requires in
    omega (arith, round_room a.by a.subs.now a.rows.now a.events.now a.before pre.0 l.subs l.rows l.events l.d l.base l.i l.invariant c.loop-i-test.true _ c.load-s.ensures)

pub loop-i-preserved-then-not-s : goal.loop-i-preserved-then-not-s
loop-i-preserved-then-not-s c =
    let l = c.loop-i in
    let a = c.args in
    let pre = c.requires in
    round-pass a.by a.subs.now a.rows.now a.events.now a.before pre.0 l.subs l.rows l.events l.d l.base l.i l.invariant c.loop-i-test.true _ c.load-s.ensures (not-true _ c.if-not-s.true)

pub returns : goal.returns
returns c =
    let l = c.loop-i in
    let a = c.args in
    let pre = c.requires in
    round-end a.by a.subs.now a.rows.now a.events.now a.before pre.0 l.subs l.rows l.events l.d l.base l.i l.invariant c.loop-i-test.false pre.1
