use borrow.Author.Tests.{not-true, not-false}
use Rattle.running.proofs.Files.{over, broken, by_bytes}
use Rattle.running.proofs.unfinished.Goals as goal

pub returns-then-not-at : goal.returns-then-not-at
returns-then-not-at c = let a = c.args in over a.at.goes_on a.failed a.at.have (not-true _ c.if-not-at.true)

pub returns-then-failed : goal.returns-then-failed
returns-then-failed c = let a = c.args in broken a.at.goes_on a.failed a.at.have (not-false _ c.if-not-at.false) c.if-failed.true

pub returns : goal.returns
returns c = let a = c.args in by_bytes a.at.goes_on a.failed a.at.have (not-false _ c.if-not-at.false) c.if-failed.false
