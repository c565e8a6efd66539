use Rattle.definition.proofs.Tests.{if-true, if-false}
use borrow.Author.Tests.{eq-eqb, ne_eqb}
use mathlib.Core.Path.{sym}
use Rattle.stationcalls.proofs.number_of.Goals as goal

pub returns-then-carried-eq0 : goal.returns-then-carried-eq0
returns-then-carried-eq0 c = sym (if-true c.args.next 0 (eq-eqb c.args.carried 0 c.if-carried-eq0.true))

pub returns : goal.returns
returns c = sym (if-false c.args.next 0 (ne_eqb c.args.carried 0 c.if-carried-eq0.false))
