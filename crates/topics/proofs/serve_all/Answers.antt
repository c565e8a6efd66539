use mathlib.Core.Path.{sym, ◌∙◌}
use Prim.Native.Nat.{◌-◌}
use Rattle.topics.proofs.Round.{round-start, round-fine, round-turn, round-pass, round-end}
use native.Mathlib.Omega.{arith}
use Rattle.topics.proofs.serve_all.Goals as goal

pub loop-i-init : goal.loop-i-init
loop-i-init c = let a = c.args in round-start a.by a.subs.now a.rows.now a.events.now a.before c.requires.0

pub serve_topic-r-requires : goal.serve_topic-r-requires
serve_topic-r-requires c =
    let l = c.loop-i in
    let a = c.args in
    let pre = c.requires in
    round-fine a.by a.subs.now a.rows.now a.events.now a.before pre.0 l.subs l.rows l.events l.d l.base l.i l.invariant c.loop-i-test.true _ c.load-s.ensures pre.2

pub loop-i-preserved : goal.loop-i-preserved
loop-i-preserved c =
    let l = c.loop-i in
    let a = c.args in
    let pre = c.requires in
    let v = c.serve_topic-r in
    round-turn a.by a.subs.now a.rows.now a.events.now a.before pre.0 l.subs l.rows l.events l.d l.base l.i l.invariant c.loop-i-test.true _ _ _ _ _ _ c.load-s.ensures c.store.ensures v.auto.rows v.auto.events v.ensures.events_after v.ensures.events_unchanged v.ensures.consumer_kept v.ensures.rows_unchanged v.ensures.own_strict

pub overflow_add-base : goal.overflow_add-base
overflow_add-base c =
    let l = c.loop-i in
    let a = c.args in
    let pre = c.requires in
    let f = round-fine a.by a.subs.now a.rows.now a.events.now a.before pre.0 l.subs l.rows l.events l.d l.base l.i l.invariant c.loop-i-test.true _ c.load-s.ensures pre.2 in
    let r = f.rows in
    let u = f.used in
    omega arith

pub overflow_add-base-then-not-can_serve : goal.overflow_add-base-then-not-can_serve
overflow_add-base-then-not-can_serve c =
    let l = c.loop-i in
    let a = c.args in
    let pre = c.requires in
    let f = round-fine a.by a.subs.now a.rows.now a.events.now a.before pre.0 l.subs l.rows l.events l.d l.base l.i l.invariant c.loop-i-test.true _ c.load-s.ensures pre.2 in
    let r = f.rows in
    let u = f.used in
    omega arith

pub loop-i-preserved-then-not-can_serve : goal.loop-i-preserved-then-not-can_serve
loop-i-preserved-then-not-can_serve c =
    let l = c.loop-i in
    let a = c.args in
    let pre = c.requires in
    round-pass a.by a.subs.now a.rows.now a.events.now a.before pre.0 l.subs l.rows l.events l.d l.base l.i l.invariant c.loop-i-test.true _ c.load-s.ensures (sym c.can_serve.ensures ∙ c.if-not-can_serve.true) pre.2

pub returns : goal.returns
returns c =
    let l = c.loop-i in
    let a = c.args in
    let pre = c.requires in
    round-end a.by a.subs.now a.rows.now a.events.now a.before pre.0 l.subs l.rows l.events l.d l.base l.i l.invariant c.loop-i-test.false pre.1
