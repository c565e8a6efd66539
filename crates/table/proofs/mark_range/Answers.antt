use Rattle.std.proofs.Common.{arith, refl, ◌≡◌, sym, ap, ◌∙◌, length, take, drop, get_or, [], ◌-◌, ◌&&◌, not, Bool, true, false, ℕ, eqb}
use mathlib.Core.Bool.{not-not}
use borrow.Author.Tests.{eq-eqb, ne_eqb}
use Rattle.definition.specs.Layout.{Row}
use Rattle.definition.specs.Base.{tally}
use Rattle.definition.proofs.Tests.{if-true, if-false}
use Rattle.table.specs.Table.{map_rows, count_rows, mark_row, freed_row, dseq_between, is_freed}
use Rattle.table.proofs.Lists.{both_hold, outside, and-on, and-off, slice-take}
use lib.Seq.{take-length}
use Rattle.table.proofs.Segments.{tally-none, count_turn, count-miss, mapped-none, mapped_at, mapped-store, mapped-lent}
use Rattle.table.proofs.mark_range.Goals as goal
use Rattle.table.proofs.mark_range.Goals.{then-has, then-row-eq0, else-row-eq0, else-has}

abbrev unfreed : ℕ → ℕ → Row → Bool
unfreed first last w = dseq_between first last w && not (is_freed w)

pub returns-then-rows-to : goal.returns-then-rows-to
unfolding map_rows count_rows
returns-then-rows-to c = let a = c.args in record {
  value = sym (outside a.from a.to a.to (length a.rows.now) _ _ (λ h b. absurd (grind arith)));
  rows_after = sym (outside a.from a.to a.to (length a.rows.now) _ _ (λ h b. absurd (grind arith)));
}

pub loop-row-init : goal.loop-row-init
loop-row-init c = let a = c.args in
    (omega arith, tally-none (unfreed a.span.first a.span.last) 0 (take (a.to - a.from) (drop a.from a.rows.now)), mapped-none (mark_row a.span.first a.span.last a.tx) 0 _)

pub loop-row-preserved : goal.loop-row-preserved
loop-row-preserved c =
    let a = c.args in
    let l = c.loop-row in
    let f = mark_row a.span.first a.span.last a.tx in
    let p = unfreed a.span.first a.span.last in
    let rs = take (a.to - a.from) (drop a.from a.rows.now) in
    let x = get_or l.row-items l.row-index [] in
    let at : x ≡ get_or rs l.row-index [] = mapped_at f 0 l.row-index rs l.row-items (omega arith) c.loop-row-test.true l.invariant.2 in
    elim c.if-has.branch [
      | then-has w ↦
          let hit : dseq_between a.span.first a.span.last x ≡ true = sym c.has.ensures ∙ w.if-has.true in
          let free : p x ≡ eqb (get_or x 7 0) 0 = and-on _ _ hit ∙ not-not (eqb (get_or x 7 0) 0) in
          let rows = w.row-items-is ∙ mapped-store f 0 l.row-index rs l.row-items (omega arith) c.loop-row-test.true l.invariant.2 _ (w.freed_row.ensures ∙ sym (if-true (freed_row a.tx x) x hit)) in
          elim w.if-row-eq0.branch [
            | then-row-eq0 v ↦ (omega arith, w.fresh-is ∙ v.fresh-is ∙ count_turn p 0 l.row-index rs x true l.fresh 1 (omega arith) c.loop-row-test.true at (free ∙ eq-eqb _ _ v.if-row-eq0.true) refl l.invariant.1, rows)
            | else-row-eq0 v ↦ (omega arith, w.fresh-is ∙ v.fresh-is ∙ count-miss p 0 l.row-index rs x l.fresh (omega arith) c.loop-row-test.true at (free ∙ ne_eqb _ _ v.if-row-eq0.false) l.invariant.1, rows)
          ]
      | else-has w ↦
          let miss : dseq_between a.span.first a.span.last x ≡ false = sym c.has.ensures ∙ w.if-has.false in (
            omega arith,
            w.fresh-is ∙ count-miss p 0 l.row-index rs x l.fresh (omega arith) c.loop-row-test.true at (and-off _ (not (is_freed x)) miss) l.invariant.1,
            w.row-items-is ∙ mapped-store f 0 l.row-index rs l.row-items (omega arith) c.loop-row-test.true l.invariant.2 x (sym (if-false (freed_row a.tx x) x miss)),
          )
    ]

pub returns : goal.returns
unfolding map_rows count_rows
returns c = let a = c.args in
    let l = c.loop-row in
    let rs = take (a.to - a.from) (drop a.from a.rows.now) in
    let e : l.row-index ≡ length rs = omega arith in record {
      value = l.invariant.1
          ∙ ap (tally (unfreed a.span.first a.span.last)) (ap (λ (k : ℕ). take k rs) e ∙ take-length rs ∙ sym (slice-take a.from a.to a.rows.now (omega arith)))
          ∙ sym (both_hold a.from a.to a.to (length a.rows.now) _ _ (omega arith) (omega arith));
      rows_after = mapped-lent (mark_row a.span.first a.span.last a.tx) a.from a.to l.row-index a.rows.now _ (omega arith) e l.invariant.2
          ∙ sym (both_hold a.from a.to a.to (length a.rows.now) _ _ (omega arith) (omega arith));
    }
