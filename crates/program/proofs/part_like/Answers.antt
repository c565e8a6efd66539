use mathlib.Core.Path.{sym, ◌∙◌}
use Rattle.program.proofs.Laws.{like-marked, like-text, like-other}
use Rattle.program.proofs.part_like.Goals as goal

pub returns-then-has_mark : goal.returns-then-has_mark
returns-then-has_mark c = like-marked c.args.part.now (sym c.has_mark.ensures ∙ c.if-has_mark.true)

pub returns-then-are_text : goal.returns-then-are_text
returns-then-are_text c = like-text c.args.part.now (sym c.has_mark.ensures ∙ c.if-has_mark.false) (sym c.are_text.ensures ∙ c.if-are_text.true)

pub returns : goal.returns
returns c = like-other c.args.part.now (sym c.has_mark.ensures ∙ c.if-has_mark.false) (sym c.are_text.ensures ∙ c.if-are_text.false)
