use borrow.Author.Tests.{eq-eqb, ne_eqb}
use Rattle.leafcases.specs.Compare.{duplicate_same}
use Rattle.leafcases.proofs.cases.duplicate_same.Goals as goal

pub returns-then-c-ne0 : goal.returns-then-c-ne0
unfolding duplicate_same
returns-then-c-ne0 c = rw (ne_eqb c.args.c.refusal 0 c.if-c-ne0.true)

pub returns : goal.returns
unfolding duplicate_same
returns c = rw (eq-eqb c.args.c.refusal 0 c.if-c-ne0.false) c.flag_is.ensures
