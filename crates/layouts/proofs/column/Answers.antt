use mathlib.Core.Path.{ap, ◌∙◌}
use mathlib.Core.List.{List, []}
use Prim.Native.Nat.{ℕ}
use lib.ListN.{get_or, set}
use Rattle.layouts.proofs.Rows.{in-range-at, table-few, table-ranged}
use Rattle.layouts.proofs.Lanes.{filled_none, filled_more, filled-all, column-most}
use native.Mathlib.Omega.{arith}
use Rattle.layouts.proofs.column.Goals as goal

pub loop-i-init : goal.loop-i-init
loop-i-init c = filled_none c.args.table.now c.args.k c.args.padding

pub overflow_cast-out : goal.overflow_cast-out
overflow_cast-out c =
    let t = c.args.table.now in
    omega (arith, column-most (get_or t c.loop-i.i []) c.args.k c.requires.k_bound (in-range-at t c.loop-i.i c.loop-i-test.true (table-ranged t c.requires.table_value)))

pub bounds-out-i : goal.bounds-out-i
bounds-out-i c =
    let n = table-few c.args.table.now c.requires.table_value in
    omega (arith, c.loop-i-test.true)

pub loop-i-preserved : goal.loop-i-preserved
loop-i-preserved c =
    let a = c.args in
    let t = a.table.now in
    ap (λ (xs : List ℕ). set xs c.loop-i.i (get_or (get_or t c.loop-i.i []) a.k 0)) c.loop-i.invariant
    ∙ filled_more t a.k a.padding c.loop-i.i c.loop-i-test.true (table-few t c.requires.table_value)

pub returns : goal.returns
returns c =
    let a = c.args in
    c.loop-i.invariant ∙ filled-all a.table.now a.k a.padding c.loop-i.i (omega (arith, c.loop-i.auto, c.loop-i-test.false))
