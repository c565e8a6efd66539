use mathlib.Core.Path.{refl, sym, ap, ap₂, ◌∙◌}
use Prim.Native.Nat.{ℕ, ◌+◌}
use native.Mathlib.Omega.{arith}
use Rattle.queries.specs.declared.PagePlan.{PagePlan}
use Rattle.queries.proofs.Paging.{short-plans, barred-plans, empty-plans, full-plans}
use Rattle.queries.proofs.plan.Goals as goal

pub returns-then-lines-lt-PAGE_MAX : goal.returns-then-lines-lt-PAGE_MAX
returns-then-lines-lt-PAGE_MAX c =
    let a = c.args in
    let both = short-plans a.head.now a.subs.now a.rows.now a.lines a.offset a.limit _ c.if-lines-lt-PAGE_MAX.true (c.no_plan.ensures ∙ ap {B = PagePlan} (λ (k : ℕ). record { refusal = k; total = 0; from = 0; count = 0 }) c.from.ensures) in record { value = both.0; page_planned = both.1 }

pub returns-then-refusal-ne0 : goal.returns-then-refusal-ne0
returns-then-refusal-ne0 c =
    let a = c.args in
    let both = barred-plans a.head.now a.subs.now a.rows.now a.lines a.offset a.limit c.if-lines-lt-PAGE_MAX.false _ c.barred-refusal.result c.barred-refusal.ensures c.if-refusal-ne0.true c.no_plan-then-refusal-ne0.ensures in record { value = both.0; page_planned = both.1 }

pub returns-then-count-eq0 : goal.returns-then-count-eq0
returns-then-count-eq0 c =
    let a = c.args in
    let z = sym c.barred-refusal.ensures ∙ c.if-refusal-ne0.false in
    let both = empty-plans a.head.now a.subs.now a.rows.now a.lines a.offset a.limit c.if-lines-lt-PAGE_MAX.false z c.load-d.result c.load-d.ensures _ (sym c.lines_of-count.ensures ∙ c.if-count-eq0.true) refl in record { value = both.0; page_planned = both.1 }

pub overflow_add-from : goal.overflow_add-from
overflow_add-from c =
    -- the rows in use are a word
    let u = c.load-d.type_inv.1.1.1.1.1.1.1.1.1.1.1.1.1.1.1.0 in
    omega (arith, c.first_waiting.ensures, c.lines_of-count.ensures, c.if-count-eq0.false, u)

pub returns : goal.returns
returns c =
    let a = c.args in
    let z = sym c.barred-refusal.ensures ∙ c.if-refusal-ne0.false in
    let n = c.lines_of-count in
    let both = full-plans a.head.now a.subs.now a.rows.now a.lines a.offset a.limit c.if-lines-lt-PAGE_MAX.false z c.load-d.result c.load-d.ensures _ (omega (arith, n.ensures, c.if-count-eq0.false))
    (ap₂ {C = PagePlan} (λ (x y : ℕ). record { refusal = 0; total = c.load-d.result.waiting; from = x + a.offset; count = y }) c.first_waiting.ensures n.ensures) in record { value = both.0; page_planned = both.1 }
