use Rattle.std.proofs.Common.{◌≤◌, ◌<◌, take, get_or, [], ap, arith}
use Rattle.std.proofs.Math.Seq.{get_or-take, length-take-le}
use Rattle.definition.specs.Words.{at}
use Rattle.queries.proofs.Bytes.{sizes-turn, sizes-end}
use Rattle.queries.proofs.each.Goals as goal
use Rattle.queries.proofs.each.Goals.{After-sum-1}

small : (c : After-sum-1) → at 9 (get_or (take c.args.n c.args.rows.now) c.loop-row.row-index []) ≤ 4294967295
small c =
    let a = c.args in
    let i = c.loop-row.row-index in
    let h : i < a.n = omega (arith, c.loop-row-test.true, length-take-le a.n a.rows.now c.requires.n_in_bounds) in
    omega (arith, c.requires.small i h, ap (at 9) (get_or-take a.n a.rows.now i [] h))

pub overflow_add-sum : goal.overflow_add-sum
overflow_add-sum c = omega (arith, small c, c.loop-row.invariant.0, c.loop-row-test.true, length-take-le c.args.n c.args.rows.now c.requires.n_in_bounds)

pub loop-row-preserved : goal.loop-row-preserved
loop-row-preserved c = (omega (arith, small c, c.loop-row.invariant.0), omega (arith, c.loop-row.invariant.1, sizes-turn (take c.args.n c.args.rows.now) c.loop-row.row-index c.loop-row-test.true))

pub returns : goal.returns
returns c = omega (arith, c.loop-row.invariant.1, sizes-end (take c.args.n c.args.rows.now) c.loop-row.row-index c.loop-row-test.false)
