use Rattle.definition.specs.Base.{rising}
use Rattle.distinct.proofs.Laws.{rising-stop, rising-next, rising-end}
use Rattle.distinct.proofs.rising.Goals as goal

pub returns-then-x-last : goal.returns-then-x-last
returns-then-x-last c = rising-stop c.args.xs.now c.loop-x.x-index c.loop-x.last (rising 0 c.args.xs.now) c.loop-x-test.true c.loop-x.invariant c.if-x-last.true

pub loop-x-preserved : goal.loop-x-preserved
loop-x-preserved c = rising-next c.args.xs.now c.loop-x.x-index c.loop-x.last (rising 0 c.args.xs.now) c.loop-x-test.true c.loop-x.invariant c.if-x-last.false

pub returns : goal.returns
returns c = rising-end c.args.xs.now c.loop-x.x-index c.loop-x.last (rising 0 c.args.xs.now) c.loop-x-test.false c.loop-x.invariant
