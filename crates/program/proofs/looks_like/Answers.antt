use mathlib.Core.Path.{sym, ◌∙◌}
use Rattle.program.proofs.Laws.{like-calls, like-part, like-all}
use native.Mathlib.Omega.{arith}
use Rattle.program.proofs.looks_like.Goals as goal

pub returns-then-calls_in-ne0 : goal.returns-then-calls_in-ne0
returns-then-calls_in-ne0 c = let a = c.args in like-calls a.bytes.now a.n (λ e. c.if-calls_in-ne0.true (c.calls_in.ensures ∙ e))

pub returns-then-bytes-n : goal.returns-then-bytes-n
returns-then-bytes-n c = let a = c.args in c.part_like.ensures ∙ like-all a.bytes.now a.n (sym c.calls_in.ensures ∙ c.if-calls_in-ne0.false) (omega (arith, c.if-bytes-n.true))

pub returns : goal.returns
returns c = let a = c.args in c.part_like-2.ensures ∙ like-part a.bytes.now a.n (sym c.calls_in.ensures ∙ c.if-calls_in-ne0.false)
