use mathlib.Core.Path.{ap}
use mathlib.Core.List.{[]}
use lib.ListN.{get_or, drop_of_length-le}
use Rattle.layouts.specs.Steps.{sizes}
use Rattle.layouts.proofs.Rows.{rows_next, ranged, in-range-at, table-few, table-ranged}
use native.Mathlib.Omega.{arith}
use Rattle.layouts.proofs.sizes.Goals as goal

pub size-sum-requires : goal.size-sum-requires
size-sum-requires c = let t = c.args.table.now in
    in-range-at t c.loop-row.row-index c.loop-row-test.true (table-ranged t c.requires)

pub overflow_add-sum : goal.overflow_add-sum
overflow_add-sum c = let t = c.args.table.now in
    let r = ranged (get_or t c.loop-row.row-index []) (in-range-at t c.loop-row.row-index c.loop-row-test.true (table-ranged t c.requires)) in
    let n = table-few t c.requires in
    let h = c.loop-row-test.true in
    omega (arith, c.size-sum.ensures, c.loop-row.invariant.0)

pub loop-row-preserved : goal.loop-row-preserved
loop-row-preserved c = let t = c.args.table.now in
    let h = c.loop-row-test.true in
    let r = ranged (get_or t c.loop-row.row-index []) (in-range-at t c.loop-row.row-index h (table-ranged t c.requires)) in
    let e = ap sizes (rows_next t c.loop-row.row-index h) in
    let s = c.size-sum.ensures in
    (omega (arith, c.loop-row.invariant.0), omega (arith, c.loop-row.invariant.1))

pub returns : goal.returns
returns c = let e = ap sizes (drop_of_length-le c.args.table.now c.loop-row-test.false) in
    omega (arith, c.loop-row.invariant.1)
