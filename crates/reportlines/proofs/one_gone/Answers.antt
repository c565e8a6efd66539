use borrow.Author.Tests.{ne_eqb}
use Rattle.reportlines.specs.ReportLines.{one_gone}
use Rattle.reportlines.proofs.one_gone.Goals as goal

pub returns-in-3 : goal.returns-in-3
unfolding one_gone
returns-in-3 c = rw (c.in-3.is, c.more_of.ensures)

pub returns-in-4 : goal.returns-in-4
unfolding one_gone
returns-in-4 c = rw (c.in-4.is, c.more_of-in-4.ensures)

pub returns-in-5 : goal.returns-in-5
unfolding one_gone
returns-in-5 c = rw (c.in-5.is, c.more_of-in-5.ensures)

pub returns-in-6 : goal.returns-in-6
unfolding one_gone
returns-in-6 c = rw (c.in-6.is, c.more_of-in-6.ensures)

pub returns-in-7 : goal.returns-in-7
unfolding one_gone
returns-in-7 c = rw (c.in-7.is, c.more_of-in-7.ensures)

pub returns-in_default : goal.returns-in_default
unfolding one_gone
returns-in_default c =
    let n = c.in_default.in_default-own.rest in
    rw (ne_eqb _ 3 n.0.0.0.0.1, ne_eqb _ 4 n.0.0.0.1, ne_eqb _ 5 n.0.0.1, ne_eqb _ 6 n.0.1, ne_eqb _ 7 n.1)
