use mathlib.Core.Path.{sym, ◌∙◌}
use Rattle.layouts.proofs.Rows.{ranged}
use Rattle.layouts.proofs.Gaps.{past-on, past-stays}
use native.Mathlib.Omega.{arith}
use Rattle.layouts.proofs.past.Goals as goal

pub overflow_add-result : goal.overflow_add-result
overflow_add-result c = omega (arith, (ranged c.args.row c.requires).last-most)

pub returns-then-covers : goal.returns-then-covers
returns-then-covers c = let a = c.args in
    sym (past-on a.row a.at (sym c.covers.ensures ∙ c.if-covers.true))

pub returns-else-covers : goal.returns-else-covers
returns-else-covers c = let a = c.args in
    sym (past-stays a.row a.at (sym c.covers.ensures ∙ c.if-covers.false))
