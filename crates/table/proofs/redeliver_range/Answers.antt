use Rattle.std.proofs.Common.{arith, sym, ◌∙◌, length, get_or, []}
use Rattle.definition.proofs.Tests.{if-true, if-false}
use Rattle.table.specs.Table.{map_rows, redeliver_row, raised_row}
use Rattle.table.proofs.Lists.{both_hold, outside}
use Rattle.table.proofs.Segments.{mapped-none, mapped-store, mapped-lent}
use Rattle.table.proofs.redeliver_range.Goals as goal
use Rattle.table.proofs.redeliver_range.Goals.{then-has, else-has}

pub returns-then-rows-to : goal.returns-then-rows-to
unfolding map_rows
returns-then-rows-to c = let a = c.args in
    sym (outside a.from a.to a.to (length a.rows.now) _ _ (λ h b. absurd (grind arith)))

pub loop-row-init : goal.loop-row-init
loop-row-init c = mapped-none (redeliver_row c.args.span.first c.args.span.last) 0 _

pub loop-row-preserved : goal.loop-row-preserved
loop-row-preserved c =
    let a = c.args in
    let l = c.loop-row in
    let f = redeliver_row a.span.first a.span.last in
    let x = get_or l.row-items l.row-index [] in
    elim c.if-has.branch [
      | then-has w ↦ w.row-items-is ∙ mapped-store f 0 l.row-index _ l.row-items (omega arith) c.loop-row-test.true l.invariant _ (w.raised_row.ensures ∙ sym (if-true (raised_row x) x (sym c.has.ensures ∙ w.if-has.true)))
      | else-has w ↦ w.row-items-is ∙ mapped-store f 0 l.row-index _ l.row-items (omega arith) c.loop-row-test.true l.invariant x (sym (if-false (raised_row x) x (sym c.has.ensures ∙ w.if-has.false)))
    ]

pub returns : goal.returns
unfolding map_rows
returns c = let a = c.args in
    mapped-lent (redeliver_row c.args.span.first c.args.span.last) a.from a.to c.loop-row.row-index a.rows.now _ (omega arith) (omega arith) c.loop-row.invariant
    ∙ sym (both_hold a.from a.to a.to (length a.rows.now) _ _ (omega arith) (omega arith))
