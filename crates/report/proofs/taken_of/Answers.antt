use borrow.Author.Tests.{eq-eqb, ne_eqb}
use Rattle.definition.specs.Words.{at}
use Rattle.report.proofs.taken_of.Goals as goal

pub returns-then-w-ne0 : goal.returns-then-w-ne0
returns-then-w-ne0 c = rw (ne_eqb (at 6 c.args.w) 0 c.if-w-ne0.true)

pub returns : goal.returns
returns c = rw (eq-eqb (at 6 c.args.w) 0 c.if-w-ne0.false)
