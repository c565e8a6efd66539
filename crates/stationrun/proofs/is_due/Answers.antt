use Rattle.stationrun.proofs.CallSteps.{over, whole-due, by_bytes}
use borrow.Author.Tests.{not-true, not-false}
use Rattle.stationrun.proofs.is_due.Goals as goal

pub returns-then-not-at : goal.returns-then-not-at
returns-then-not-at c = let a = c.args in over a.at.reading.goes_on a.at.reading.have a.from a.len (not-true _ c.if-not-at.true)

pub returns-then-at-eq-BLOCK : goal.returns-then-at-eq-BLOCK
returns-then-at-eq-BLOCK c = let a = c.args in whole-due a.at.reading.goes_on a.at.reading.have a.from a.len (not-false _ c.if-not-at.false) c.if-at-eq-BLOCK.true

pub returns : goal.returns
returns c = let a = c.args in by_bytes a.at.reading.goes_on a.at.reading.have a.from a.len (not-false _ c.if-not-at.false) c.if-at-eq-BLOCK.false
