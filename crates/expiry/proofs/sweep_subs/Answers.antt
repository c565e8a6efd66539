use mathlib.Core.Path.{refl, ap, ◌∙◌}
use native.Mathlib.Omega.{arith}
use lib.ListN.{set}
use Rattle.consumers.specs.declared.Sub.{Sub}
use Rattle.consumers.specs.Consumers.{sub_words}
use Rattle.expiry.proofs.Round.{round-start, round-rows, round-fine, round-turn, round-end}
use Rattle.expiry.proofs.sweep_subs.Goals as goal

pub loop-i-init : goal.loop-i-init
loop-i-init c =
    let a = c.args in
    let pre = c.requires in
    round-start a.most a.by a.subs.now a.rows.now a.d a.gone pre

pub overflow_add-from : goal.overflow_add-from
overflow_add-from c =
    let l = c.loop-i in
    let a = c.args in
    let pre = c.requires in
    let h = round-rows a.most a.by a.subs.now a.rows.now a.d a.gone pre l.subs l.rows l.w l.base l.i l.invariant c.loop-i-test.true _ c.load-s.ensures in
    omega (arith, h, l.invariant.used, pre.used)

pub sweep_held-w-requires : goal.sweep_held-w-requires
sweep_held-w-requires c =
    let l = c.loop-i in
    let a = c.args in
    let pre = c.requires in
    round-fine a.most a.by a.subs.now a.rows.now a.d a.gone pre l.subs l.rows l.w l.base l.i l.invariant c.loop-i-test.true _ c.load-s.ensures

pub overflow_add-base : goal.overflow_add-base
overflow_add-base c =
    let l = c.loop-i in
    let a = c.args in
    let pre = c.requires in
    let h = round-rows a.most a.by a.subs.now a.rows.now a.d a.gone pre l.subs l.rows l.w l.base l.i l.invariant c.loop-i-test.true _ c.load-s.ensures in
    omega (arith, h, l.invariant.used, pre.used, c.sweep_held-w.ensures.shorter.length)

pub loop-i-preserved : goal.loop-i-preserved
loop-i-preserved c =
    let l = c.loop-i in
    let a = c.args in
    let pre = c.requires in
    let v = c.sweep_held-w in
    let s = c.load-s in
    let made = c.store.ensures ∙ ap (λ (y : Sub). set l.subs l.i (sub_words y)) c.with_held.ensures in
    round-turn a.most a.by a.subs.now a.rows.now a.d a.gone pre l.subs l.rows l.w l.base l.i l.invariant c.loop-i-test.true s.result _ v.result _ _ s.ensures refl made v.auto.rows v.ensures.rows_after v.ensures.shorter v.ensures.rows_unchanged v.ensures.stays_strict

pub returns : goal.returns
returns c =
    let l = c.loop-i in
    let a = c.args in
    let pre = c.requires in
    round-end a.most a.by a.subs.now a.rows.now a.d a.gone pre l.subs l.rows l.w l.base l.i l.invariant c.loop-i-test.false
