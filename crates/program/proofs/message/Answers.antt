use mathlib.Core.Path.{sym, ◌∙◌}
use mathlib.Core.Bool.{false≢true}
use borrow.Author.Tests.{leb-true, not-false}
use Rattle.program.proofs.message.Goals as goal

pub returns-then-not-has_room : goal.returns-then-not-has_room
returns-then-not-has_room c = λ e. absurd (false≢true e)

pub returns : goal.returns
returns c = λ e. leb-true _ _ (sym c.has_room.ensures ∙ not-false _ c.if-not-has_room.false-raw)
