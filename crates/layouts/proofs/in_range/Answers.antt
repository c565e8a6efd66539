use Rattle.std.proofs.Common.{rules, tests, ◌∙◌, length, le-leb}
use Rattle.std.proofs.lemmas.Iterator.{YieldsList-from_slice}
use Rattle.std.proofs.lemmas.Iterator.Search.{all_from_yields_List}
use borrow.Author.Tests.{lt-leb}
use Rattle.layouts.specs.Layouts.{row_in_range, table_in_range}
use Rattle.layouts.proofs.Rows.{list_all-ranged}
use Rattle.layouts.proofs.in_range.Goals as goal

pub returns-then-table-le-ROWS : goal.returns-then-table-le-ROWS
unfolding table_in_range
returns-then-table-le-ROWS c =
    rw (le-leb (length c.args.table.now) 64 c.if-table-le-ROWS.true)
    (all_from_yields_List row_in_range _ _ c.all.result c.all.ensures.ran (YieldsList-from_slice c.args.table.now cc) (λ x b q k. search (rules, tests)) ∙ list_all-ranged c.args.table.now)

pub returns-else-table-le-ROWS : goal.returns-else-table-le-ROWS
unfolding table_in_range
returns-else-table-le-ROWS c = rw (lt-leb (length c.args.table.now) 64 c.if-table-le-ROWS.false)
