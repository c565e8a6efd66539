use Rattle.stationrun.proofs.CallSteps.{same_after, next-after}
use native.Mathlib.Omega.{arith}
use Rattle.stationrun.proofs.after_call.Goals as goal

pub returns-then-count-at : goal.returns-then-count-at
returns-then-count-at c = let a = c.args in next-after a.at a.count c.more_of-index.ensures c.next_block.ensures (omega (arith, c.if-count-at.true))

pub returns-then-run-count : goal.returns-then-run-count
returns-then-run-count c = let a = c.args in same_after a.at a.count c.more_of-index.ensures c.if-run-count.true

pub returns : goal.returns
returns c = let a = c.args in next-after a.at a.count c.more_of-index.ensures c.next_block-2.ensures c.if-run-count.false
