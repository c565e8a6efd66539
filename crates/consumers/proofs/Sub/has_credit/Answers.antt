use borrow.Author.Tests.{eq-eqb, ne_eqb}
use Rattle.consumers.specs.Consumers.{credit_of}
use Rattle.consumers.proofs.Sub.has_credit.Goals as goal

pub returns-then-self-eq0 : goal.returns-then-self-eq0
unfolding credit_of
returns-then-self-eq0 c = rw (eq-eqb c.args.self.prefetch 0 c.if-self-eq0.true)

pub returns : goal.returns
unfolding credit_of
returns c = rw (ne_eqb c.args.self.prefetch 0 c.if-self-eq0.false, c.window.ensures)
