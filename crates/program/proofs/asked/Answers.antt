use mathlib.Core.Path.{sym, ◌∙◌}
use Rattle.program.proofs.Laws.{asks-help, asks_nothing, asks-option, asks-file}
use Rattle.program.proofs.asked.Goals as goal

pub returns-then-same : goal.returns-then-same
returns-then-same c = asks-help c.args.word.now (sym c.same.ensures ∙ c.if-same.true)

pub returns-then-word-eq0 : goal.returns-then-word-eq0
returns-then-word-eq0 c = asks_nothing c.args.word.now (sym c.same.ensures ∙ c.if-same.false) c.if-word-eq0.true

pub returns-then-word-eq45 : goal.returns-then-word-eq45
returns-then-word-eq45 c = asks-option c.args.word.now (sym c.same.ensures ∙ c.if-same.false) c.if-word-eq0.false c.if-word-eq45.true

pub returns : goal.returns
returns c = asks-file c.args.word.now (sym c.same.ensures ∙ c.if-same.false) c.if-word-eq0.false c.if-word-eq45.false
