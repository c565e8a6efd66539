use mathlib.Core.Path.{sym, ◌∙◌}
use borrow.Author.Tests.{ne_eqb}
use Rattle.rejects.proofs.Words.{none-rejected}
use Rattle.stationcalls.proofs.step.Goals as goal

pub reject-r-requires : goal.reject-r-requires
reject-r-requires c = (c.requires, sym c.rejects.ensures ∙ c.if-rejects.true)

pub quiet-requires : goal.quiet-requires
quiet-requires c = (c.requires, ne_eqb c.args.c.code 1 c.if-c-eq-ENQUEUE.false, λ t. none-rejected c.args.c.code c.args.c.words t (sym c.rejects.ensures ∙ c.if-rejects.false))
