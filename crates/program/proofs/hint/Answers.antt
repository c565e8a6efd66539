use mathlib.Core.Path.{sym, ◌∙◌}
use Rattle.program.proofs.Laws.{calls-were-read, nothing-was-read, calls-come, puzzles}
use Rattle.program.proofs.hint.Goals as goal

pub returns-then-at-ne0 : goal.returns-then-at-ne0
returns-then-at-ne0 c = let a = c.args in calls-were-read a.block.now a.at c.if-at-ne0.true

pub returns-then-n-eq0 : goal.returns-then-n-eq0
returns-then-n-eq0 c = let a = c.args in nothing-was-read a.block.now a.at c.if-at-ne0.false c.read_of-n.result c.read_of-n.ensures c.if-n-eq0.true

pub returns-in-Calls : goal.returns-in-Calls
returns-in-Calls c = let a = c.args in
    let n = c.read_of-n in
    calls-come a.block.now a.at c.if-at-ne0.false n.result n.ensures c.if-n-eq0.false (sym c.looks_like.ensures ∙ c.in-Calls.is)

pub returns-in_default : goal.returns-in_default
returns-in_default c = let a = c.args in
    let n = c.read_of-n in
    puzzles a.block.now a.at c.if-at-ne0.false n.result n.ensures c.if-n-eq0.false (λ z. c.in_default.not-Calls (c.looks_like.ensures ∙ z))
