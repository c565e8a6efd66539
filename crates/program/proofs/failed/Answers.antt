use mathlib.Core.Path.{sym, ◌∙◌}
use borrow.Author.Tests.{not-true, not-false}
use Rattle.program.proofs.failed.Goals as goal

pub returns-then-not-has_room : goal.returns-then-not-has_room
returns-then-not-has_room c = sym (not-true _ c.if-not-has_room.true-raw) ∙ c.has_room.ensures

pub returns : goal.returns
returns c = sym (not-false _ c.if-not-has_room.false-raw) ∙ c.has_room.ensures
