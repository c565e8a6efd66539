use Rattle.subrows.proofs.Subs.{rows-item}
use Rattle.sound.proofs.Hub.{no-hub, apart_next, hub-here}
use native.Mathlib.Omega.{arith}
use borrow.Author.Rules.{rules}
use Rattle.sound.proofs.most_rows.Goals as goal
use Rattle.sound.proofs.most_rows.Goals.{then-many-k, else-many-k}

pub loop-w-init : goal.loop-w-init
loop-w-init c = let a = c.args in (search rules, no-hub a.subs.now, λ rows e. e)

pub overflow_add-k : goal.overflow_add-k
overflow_add-k c =
    let a = c.args in
    omega (arith, rows-item a.subs.now c.loop-w.w-index c.loop-w-test.true)

pub overflow_add-base : goal.overflow_add-base
overflow_add-base c =
    let a = c.args in
    omega (arith, rows-item a.subs.now c.loop-w.w-index c.loop-w-test.true)

pub loop-w-preserved : goal.loop-w-preserved
loop-w-preserved c =
    let a = c.args in
    let us = a.subs.now in
    let h = c.loop-w-test.true in
    let v = c.loop-w.invariant in (
      omega (arith, rows-item us c.loop-w.w-index h),
      elim c.if-many-k.branch [
        | then-many-k w ↦ rw (w.end-is, w.many-is) (hub-here us c.loop-w.w-index c.loop-w.base h v.2 v.0)
        | else-many-k w ↦ rw (w.end-is, w.many-is) v.1
      ],
      apart_next us c.loop-w.w-index c.loop-w.base h v.2,
    )

pub returns : goal.returns
returns c = c.loop-w.invariant.1
