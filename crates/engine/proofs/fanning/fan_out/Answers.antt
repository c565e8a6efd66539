use mathlib.Core.Path.{◌≡◌, sym, ap, ap₂, ◌∙◌}
use mathlib.Core.Bool.{true, false}
use Prim.Native.Nat.{ℕ, ◌+◌}
use native.Mathlib.Omega.{arith}
use borrow.Author.Tests.{not-true, not-false}
use Rattle.definition.specs.Layout.{Row}
use Rattle.table.specs.Table.{insert_row}
use Rattle.consumers.specs.Consumers.{accepts_of}
use Rattle.engine.specs.Copies.{gone_of, trimmed}
use Rattle.engine.proofs.Copy.{got, copied-no, copied-yes}
use Rattle.engine.proofs.fanning.fan_out.Goals as goal

pub returns-then-not-accepts : goal.returns-then-not-accepts
returns-then-not-accepts c =
    let a = c.args in
    let no : accepts_of a.s a.e ≡ false = sym c.accepts.ensures ∙ not-true _ c.if-not-accepts.true-raw in
    let both = copied-no a.by a.limit a.e a.base a.s a.used a.rows.now no in record { value = both.0; rows_after = both.1 }

pub overflow_add-gone : goal.overflow_add-gone
overflow_add-gone c = omega (arith, c.trim-g.ensures.over_bound, c.requires.0, c.requires.1)

pub overflow_add-s-2 : goal.overflow_add-s-2
overflow_add-s-2 c = omega (arith, c.requires.0, c.requires.1)

pub overflow_sub-s : goal.overflow_sub-s
overflow_sub-s c = omega (arith, c.trim-g.ensures.over_bound)

pub overflow_add-result : goal.overflow_add-result
overflow_add-result c = omega (arith, c.requires.1)

pub overflow_sub-result : goal.overflow_sub-result
overflow_sub-result c = omega (arith, c.trim-g.ensures.over_bound, c.requires.0)

pub returns : goal.returns
returns c =
    let a = c.args in
    let t = c.trim-g.ensures in
    let yes : accepts_of a.s a.e ≡ true = sym c.accepts.ensures ∙ not-false _ c.if-not-accepts.false-raw in
    let put = c.insert_row.ensures ∙ ap₂ (λ (n : ℕ) (r : Row). insert_row n a.used r a.rows.now) c.place_from_end-place.ensures c.held_row.ensures in
    let y = copied-yes a.by a.limit a.e a.base a.s a.used a.rows.now yes in record { value = ap (got a.s a.used) (t.value ∙ ap (gone_of a.by a.limit (a.base + a.s.inflight) (a.s.held + 1) (a.used + 1)) put) ∙ y.0; rows_after = t.rows_after ∙ ap (trimmed a.by a.limit (a.base + a.s.inflight) (a.s.held + 1) (a.used + 1)) put ∙ y.1 }
