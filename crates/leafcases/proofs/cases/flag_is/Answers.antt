use Rattle.leafcases.specs.Compare.{flag_is}
use Rattle.leafcases.proofs.cases.flag_is.Goals as goal

pub returns-then-b : goal.returns-then-b
unfolding flag_is
returns-then-b c = rw c.if-b.true

pub returns-else-b : goal.returns-else-b
unfolding flag_is
returns-else-b c = rw c.if-b.false
