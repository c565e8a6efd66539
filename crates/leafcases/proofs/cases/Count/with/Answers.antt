use Rattle.leafcases.specs.Compare.{counted_case}
use Rattle.leafcases.proofs.cases.Count.with.Goals as goal

pub returns-then-same : goal.returns-then-same
unfolding counted_case
returns-then-same c = rw (c.if-same.true, c.more_of.ensures)

pub returns-else-same : goal.returns-else-same
unfolding counted_case
returns-else-same c = rw (c.if-same.false, c.more_of-else-same.ensures, c.more_of-else-same-2.ensures)
