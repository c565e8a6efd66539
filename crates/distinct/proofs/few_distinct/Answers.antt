use Rattle.std.proofs.Common.{sym, ◌∙◌}
use Rattle.distinct.proofs.Laws.{distinct-met, distinct-next, distinct-end}
use Rattle.distinct.proofs.few_distinct.Goals as goal

pub returns-then-met : goal.returns-then-met
returns-then-met c = distinct-met c.args.xs.now c.loop-i.i c.loop-i-test.true c.loop-i.invariant (sym c.met.ensures ∙ c.if-met.true)

pub loop-i-preserved : goal.loop-i-preserved
loop-i-preserved c = distinct-next c.args.xs.now c.loop-i.i c.loop-i-test.true c.loop-i.invariant (sym c.met.ensures ∙ c.if-met.false)

pub returns : goal.returns
returns c = distinct-end c.args.xs.now c.loop-i.i c.loop-i-test.false c.loop-i.invariant
