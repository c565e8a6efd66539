use Rattle.std.proofs.Common.{arith, rules, refl, ◌≡◌, ◌≤◌, sym, ◌∙◌, length, false}
use mathlib.Core.Bool.{true≢false}
use Rattle.definition.proofs.Tests.{if-false}
use Rattle.table.specs.Table.{segment_of, remove_rows, removed_rows}
use Rattle.table.proofs.Bounds.{gone-in}
use Rattle.table.proofs.Segments.{taken_out}
use Rattle.table.proofs.remove_where.Goals as goal

pub returns-then-not-is_segment : goal.returns-then-not-is_segment
unfolding remove_rows removed_rows
returns-then-not-is_segment g c =
    let a = c.args in
    let e : segment_of a.from a.to a.n (length a.rows.now) ≡ false = sym c.is_segment.ensures ∙ c.if-not-is_segment.true in record {
      outside = λ e. (refl, refl);
      taken = λ p t. (sym (if-false _ _ e), sym (if-false _ _ e));
    }

pub overflow_sub-to : goal.overflow_sub-to
overflow_sub-to g c = omega (arith, c.compact-gone.ensures.few)

pub returns : goal.returns
returns g c =
    let a = c.args in
    let h : a.from ≤ a.to = search rules in
    let k : a.to ≤ a.n = search rules in
    let b : a.n ≤ length a.rows.now = search rules in record {
      outside = λ e. absurd (true≢false (sym c.if-not-is_segment.false ∙ c.is_segment.ensures ∙ e));
      taken = λ p t.
          let m = c.compact-gone.ensures.moved p t in
          (m.0 ∙ sym (gone-in p a.from a.to a.n a.rows.now h k b), taken_out p a.from a.to a.n c.compact-gone.result a.rows.now c.compact-gone.new.rows c.close_gap.new.rows h k b m.0 m.1 c.close_gap.ensures);
    }
