use Rattle.std.proofs.Common.{rules, tests, arith, ◌∙◌, ℕ, get_or, []}
use borrow.Author.Tests.{lt-leb}
use Rattle.std.proofs.lemmas.Iterator.{YieldsList-from_range}
use Rattle.std.proofs.lemmas.Iterator.Search.{any_from_yields_List}
use Rattle.dispatch.specs.Dispatch.{can_go, goes_out}
use Rattle.dispatch.proofs.Guard.{one-short, one-place}
use Rattle.dispatch.proofs.goes.Goals as goal

pub returns-then-n-subs : goal.returns-then-n-subs
unfolding goes_out
returns-then-n-subs c =
    let a = c.args in
    any_from_yields_List (λ (i : ℕ). can_go a.waiting a.queue (get_or a.subs.now i [])) _ _ c.any.result c.any.ensures.ran (YieldsList-from_range 0 a.n a.n (cc) (omega arith)) (λ x b q k. search (rules, tests))
    ∙ one-place (can_go a.waiting a.queue) a.n a.subs.now c.if-n-subs.true

pub returns-else-n-subs : goal.returns-else-n-subs
unfolding goes_out
returns-else-n-subs c = let a = c.args in lt-leb _ _ c.if-n-subs.false ∙ one-short (can_go a.waiting a.queue) a.n a.subs.now c.if-n-subs.false
