use mathlib.Core.Path.{sym, ap, ap₂, ◌∙◌}
use Prim.Native.Nat.{ℕ, ◌-◌}
use native.Mathlib.Omega.{arith}
use Rattle.table.specs.Table.{close_gap}
use Rattle.engine.specs.Copies.{over_limit}
use Rattle.engine.proofs.Copy.{over-most, gone, expired-few, gone-none, gone-some}
use Rattle.engine.proofs.fanning.trim.Goals as goal

pub returns-then-over_of-eq0 : goal.returns-then-over_of-eq0
returns-then-over_of-eq0 c =
    let a = c.args in
    let n = gone-none a.by a.limit a.from a.n a.used a.rows.now (sym c.over_of.ensures ∙ c.if-over_of-eq0.true) in record { over_bound = omega arith; value = n.0; rows_after = n.1 }

pub overflow_sub-n : goal.overflow_sub-n
overflow_sub-n c =
    let a = c.args in
    omega (arith, expired-few a.by a.limit a.from a.n a.used a.rows.now, c.remove_expired-expired.ensures.value)

pub overflow_sub-used : goal.overflow_sub-used
overflow_sub-used c =
    let a = c.args in
    omega (arith, expired-few a.by a.limit a.from a.n a.used a.rows.now, c.remove_expired-expired.ensures.value, c.requires.0)

pub returns : goal.returns
returns c =
    let a = c.args in
    let e = c.remove_expired-expired in
    let o = c.over_of-over in
    let s = gone-some a.by a.limit a.from a.n a.used a.rows.now (λ q. c.if-over_of-eq0.false (c.over_of.ensures ∙ q)) in
    let over = o.ensures ∙ ap (λ (m : ℕ). over_limit a.limit (a.n - m)) e.ensures.value in record { over_bound = omega (arith, expired-few a.by a.limit a.from a.n a.used a.rows.now, e.ensures.value, o.ensures, over-most a.limit (a.n - e.result)); value = ap₂ gone e.ensures.value over ∙ s.0; rows_after = c.close_gap.ensures ∙ (λ j. close_gap a.from (over j) (a.used - e.ensures.value j) (e.ensures.rows_after j)) ∙ s.1 }
