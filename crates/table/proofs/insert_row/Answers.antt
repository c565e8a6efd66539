use Rattle.std.proofs.Common.{arith, sym, ap, ◌∙◌, ◌+◌, length, set, List}
use Rattle.definition.specs.Layout.{Row}
use Rattle.table.specs.Table.{insert_row}
use Rattle.table.proofs.Lists.{outside}
use Rattle.table.proofs.Loops.{lifted-store}
use Rattle.table.proofs.Bounds.{open_in, insert-in}
use Rattle.table.proofs.insert_row.Goals as goal

pub returns-then-rows-n : goal.returns-then-rows-n
unfolding insert_row
returns-then-rows-n c = let a = c.args in
    sym (outside a.at a.n (a.n + 1) (length a.rows.now) _ _ (λ h b. absurd (grind arith)))

pub returns : goal.returns
returns c = let a = c.args in
    let rs = a.rows.now in
    ap (λ (l : List Row). set l a.at a.row) (c.open_gap.ensures ∙ open_in a.at 1 a.n rs (omega arith) (omega arith))
    ∙ lifted-store rs a.at a.n a.row (omega arith) (omega arith)
    ∙ sym (insert-in a.at a.n a.row rs (omega arith) (omega arith))
