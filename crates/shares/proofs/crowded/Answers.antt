use Rattle.std.proofs.Common.{◌≤◌, ◌%◌, get_or, refl, subst, arith, true≢false}
use Rattle.std.proofs.Math.Seq.{take_all}
use Rattle.shares.proofs.Laws.{Counted, counted_none, counted-few, counted-more, counted-within}
use Rattle.shares.proofs.crowded.Goals as goal
use Rattle.shares.proofs.crowded.Goals.{After-row_known-1}

few : (c : After-row_known-1) → let l = c.loop-x in let a = c.args in get_or l.counts (get_or a.xs.now l.x-index 0 % 256) 0 ≤ 512
few c = omega (arith, c.requires, c.loop-x-test.true, counted-few c.args.share c.loop-x.counts c.args.xs.now c.loop-x.x-index c.loop-x.invariant c.loop-x-test.true)

pub loop-x-init : goal.loop-x-init
loop-x-init c = counted_none c.args.share

pub overflow_add-count : goal.overflow_add-count
overflow_add-count c = omega (arith, few c)

pub returns-then-share-count : goal.returns-then-share-count
returns-then-share-count c = λ e. absurd (true≢false e)

pub loop-x-preserved : goal.loop-x-preserved
loop-x-preserved c = counted-more c.args.share c.loop-x.counts c.args.xs.now c.loop-x.x-index c.loop-x.invariant c.loop-x-test.true _ refl (omega (arith, c.if-share-count.false))

pub returns : goal.returns
returns c = λ _. counted-within c.args.share c.loop-x.counts c.args.xs.now (subst (Counted c.args.share c.loop-x.counts) (take_all c.loop-x.x-index c.args.xs.now c.loop-x-test.false) c.loop-x.invariant)
