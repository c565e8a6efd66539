use mathlib.Core.Path.{sym}
use Rattle.definition.proofs.Tests.{if-true, if-false}
use Rattle.engine.proofs.acking.range_of.Goals as goal

pub returns-then-transacted : goal.returns-then-transacted
returns-then-transacted c = sym (if-true _ _ c.if-transacted.true)

pub returns : goal.returns
returns c = sym (if-false _ _ c.if-transacted.false)
