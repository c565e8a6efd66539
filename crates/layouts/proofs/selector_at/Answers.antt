use mathlib.Core.Path.{sym, ◌∙◌}
use Rattle.layouts.proofs.Rows.{selector-here, selector-next, selector-none}
use Rattle.layouts.proofs.selector_at.Goals as goal

pub returns-then-covers : goal.returns-then-covers
returns-then-covers c = let a = c.args in
    selector-here a.table.now c.loop-row.row-index a.layout c.loop-row-test.true c.loop-row.invariant (sym c.covers.ensures ∙ c.if-covers.true)

pub loop-row-preserved : goal.loop-row-preserved
loop-row-preserved c = let a = c.args in
    selector-next a.table.now c.loop-row.row-index a.layout c.loop-row-test.true c.loop-row.invariant (sym c.covers.ensures ∙ c.if-covers.false)

pub returns : goal.returns
returns c = let a = c.args in
    selector-none a.table.now c.loop-row.row-index a.layout c.loop-row-test.false c.loop-row.invariant
