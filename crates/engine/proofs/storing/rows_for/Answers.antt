use mathlib.Core.Path.{sym, ◌∙◌}
use Rattle.definition.proofs.Tests.{if-true, if-false}
use Rattle.engine.proofs.storing.rows_for.Goals as goal

pub returns-then-d : goal.returns-then-d
returns-then-d c = sym (if-true 1 _ c.if-d.true)

pub returns : goal.returns
returns c = c.accepting.ensures ∙ sym (if-false 1 _ c.if-d.false)
