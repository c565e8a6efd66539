use Rattle.std.proofs.Common.{rules, tests, ◌≡◌, ◌≤◌, sym, ap, ap₂, ◌∙◌, length, false, ◌&&◌, ℕ}
use Rattle.definition.proofs.Chains.{slice-range}
use Rattle.definition.proofs.Tests.{if-false}
use Rattle.definition.specs.Base.{tally}
use Rattle.definition.specs.Layout.{Row}
use Rattle.table.specs.declared.Removed.{Removed}
use Rattle.table.specs.Table.{segment_of, remove_rows, removed_rows, dseq_between, is_freed}
use Rattle.table.proofs.Bounds.{gone-in}
use Rattle.table.proofs.remove_range.Goals as goal

abbrev removed : ℕ → ℕ → Removed
removed x y = record { rows = x; freed = y }

pub returns-then-not-is_segment-clause-value : goal.returns-then-not-is_segment-clause-value
unfolding removed_rows
returns-then-not-is_segment-clause-value c = let a = c.args in
    let e : segment_of a.from a.to a.n (length a.rows.now) ≡ false = sym c.is_segment.ensures ∙ c.if-not-is_segment.true in
    ap₂ removed (sym (if-false _ _ e)) (sym (if-false _ _ e))

pub returns-then-not-is_segment-clause-rows_after : goal.returns-then-not-is_segment-clause-rows_after
unfolding remove_rows
returns-then-not-is_segment-clause-rows_after c = let a = c.args in
    let e : segment_of a.from a.to a.n (length a.rows.now) ≡ false = sym c.is_segment.ensures ∙ c.if-not-is_segment.true in
    sym (if-false _ _ e)

pub returns-clause-value : goal.returns-clause-value
returns-clause-value c = let a = c.args in
    let h : a.from ≤ a.to = search rules in
    let k : a.to ≤ a.n = search rules in
    let b : a.n ≤ length a.rows.now = search rules in
    let p = λ (r : Row). dseq_between a.span.first a.span.last r && is_freed r in
    ap₂ removed
    (c.remove_where-gone.ensures.taken (dseq_between a.span.first a.span.last) (λ r b q. search (rules, tests))).0
    (c.count_freed-freed.ensures
    ∙ ap (tally p) (sym (slice-range a.from a.to a.rows.now h))
    ∙ sym (gone-in p a.from a.to a.n a.rows.now h k b))

pub returns-clause-rows_after : goal.returns-clause-rows_after
returns-clause-rows_after c = (c.remove_where-gone.ensures.taken (dseq_between c.args.span.first c.args.span.last) (λ r b q. search (rules, tests))).1
