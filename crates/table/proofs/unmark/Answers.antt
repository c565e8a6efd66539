use Rattle.std.proofs.Common.{arith, refl, sym, ◌∙◌, length}
use Rattle.table.specs.Table.{map_rows, unmark_row}
use Rattle.table.proofs.Lists.{both_hold, outside}
use Rattle.table.proofs.Segments.{mapped-none, mapped-store, mapped-lent}
use Rattle.table.proofs.unmark.Goals as goal

pub returns-then-rows-to : goal.returns-then-rows-to
unfolding map_rows
returns-then-rows-to c = let a = c.args in
    sym (outside a.from a.to a.to (length a.rows.now) _ _ (λ h b. absurd (grind arith)))

pub loop-row-init : goal.loop-row-init
loop-row-init c = mapped-none unmark_row 0 _

pub loop-row-preserved : goal.loop-row-preserved
loop-row-preserved c = let l = c.loop-row in
    mapped-store unmark_row 0 l.row-index _ l.row-items (omega arith) c.loop-row-test.true l.invariant _ refl

pub returns : goal.returns
unfolding map_rows
returns c = let a = c.args in
    mapped-lent unmark_row a.from a.to c.loop-row.row-index a.rows.now _ (omega arith) (omega arith) c.loop-row.invariant
    ∙ sym (both_hold a.from a.to a.to (length a.rows.now) _ _ (omega arith) (omega arith))
