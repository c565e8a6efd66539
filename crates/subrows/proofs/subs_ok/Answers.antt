use mathlib.Core.Path.{refl, sym, ◌∙◌}
use Rattle.definition.specs.Words.{kind_by}
use Rattle.subrows.specs.Subrows.{own_ok, each_ok}
use Rattle.subrows.proofs.Subs.{rows-item, item-stop, item-next, item-end}
use native.Mathlib.Omega.{arith}
use borrow.Author.Rules.{rules}
use Rattle.subrows.proofs.subs_ok.Goals as goal

pub loop-w-init : goal.loop-w-init
loop-w-init c = (search rules, refl)

pub sub_ok-requires : goal.sub_ok-requires
sub_ok-requires c = omega (arith, rows-item c.args.subs.now c.loop-w.w-index c.loop-w-test.true)

pub returns-then-not-sub_ok : goal.returns-then-not-sub_ok
returns-then-not-sub_ok c =
    let a = c.args in
    let us = a.subs.now in
    item-stop us c.loop-w.w-index (λ ok. ok) (own_ok (kind_by a.on_queue) a.most) a.rows.now c.loop-w.base (each_ok (kind_by a.on_queue) a.most us a.rows.now) c.loop-w.invariant.1 c.loop-w-test.true (sym c.sub_ok.ensures ∙ c.if-not-sub_ok.true)

pub overflow_add-base : goal.overflow_add-base
overflow_add-base c = omega (arith, rows-item c.args.subs.now c.loop-w.w-index c.loop-w-test.true)

pub overflow_add-base-in-loop-w : goal.overflow_add-base-in-loop-w
overflow_add-base-in-loop-w c = omega (arith, rows-item c.args.subs.now c.loop-w.w-index c.loop-w-test.true)

pub loop-w-preserved : goal.loop-w-preserved
loop-w-preserved c =
    let a = c.args in
    let us = a.subs.now in
    (omega (arith, rows-item us c.loop-w.w-index c.loop-w-test.true), item-next us c.loop-w.w-index (λ ok. ok) (own_ok (kind_by a.on_queue) a.most) a.rows.now c.loop-w.base (each_ok (kind_by a.on_queue) a.most us a.rows.now) c.loop-w.invariant.1 c.loop-w-test.true (sym c.sub_ok.ensures ∙ c.if-not-sub_ok.false))

pub returns : goal.returns
returns c =
    let a = c.args in
    let us = a.subs.now in
    item-end us c.loop-w.w-index (λ ok. ok) (own_ok (kind_by a.on_queue) a.most) a.rows.now c.loop-w.base (each_ok (kind_by a.on_queue) a.most us a.rows.now) c.loop-w.invariant.1 c.loop-w-test.false
