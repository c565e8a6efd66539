use borrow.Author.Tests.{eq-eqb, ne_eqb}
use Rattle.engine.proofs.share_of.Goals as goal

pub returns-then-w-eq0 : goal.returns-then-w-eq0
returns-then-w-eq0 c = rw (eq-eqb c.args.w 0 c.if-w-eq0.true)

pub returns-else-w-eq0 : goal.returns-else-w-eq0
returns-else-w-eq0 c = rw (ne_eqb c.args.w 0 c.if-w-eq0.false)
