use mathlib.Core.Path.{sym, ◌∙◌}
use borrow.Author.Tests.{not-true, not-false}
use Rattle.running.proofs.Files.{no-rest, rest_put}
use Rattle.running.proofs.rest_line.Goals as goal

pub returns-then-not-unfinished : goal.returns-then-not-unfinished
returns-then-not-unfinished c = let a = c.args in no-rest a.at a.failed a.out.now (sym c.unfinished.ensures ∙ not-true _ c.if-not-unfinished.true-raw)

pub returns : goal.returns
returns c = let a = c.args in rest_put a.at a.failed a.out.now (sym c.unfinished.ensures ∙ not-false _ c.if-not-unfinished.false-raw) c.put_bad.ensures
