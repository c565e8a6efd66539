use Rattle.std.proofs.Common.{rules, arith, ◌≡◌, ap, ◌<◌, [], ℕ, min, length, get_or, take, List}
use lib.ListN.{length-take}
use lib.Seq.{get_or-take}
use Rattle.definition.specs.Layout.{Row, inflight_count, held_count}
use Rattle.consumers.proofs.Table.{rows_next, rows_none}
use Rattle.consumers.proofs.base_of.Goals as goal

-- the row at a place of the first e, and that the place is one of the first n
row : (e i : ℕ) (ws : List Row) → i < length (take e ws) → get_or (take e ws) i [] ≡ get_or ws i []
row e i ws h = get_or-take e ws i [] (omega (arith, length-take e ws))

pub returns-then-base-gt-ROWS : goal.returns-then-base-gt-ROWS
returns-then-base-gt-ROWS c = let l = c.loop-w in
    let ws = c.args.subs.now in
    let g = row c.end_of.result l.w-index ws c.loop-w-test.true in
    let h : l.w-index < min c.args.n (length ws) = omega (arith, length-take c.end_of.result ws) in
    omega (arith, l.invariant.1, rows_next l.w-index c.args.n ws h, ap inflight_count g, ap held_count g)

pub loop-w-preserved : goal.loop-w-preserved
loop-w-preserved c = let l = c.loop-w in
    let ws = c.args.subs.now in
    let g = row c.end_of.result l.w-index ws c.loop-w-test.true in
    let h : l.w-index < min c.args.n (length ws) = omega (arith, length-take c.end_of.result ws) in
    (search rules, omega (arith, l.invariant.1, rows_next l.w-index c.args.n ws h, ap inflight_count g, ap held_count g))

pub returns : goal.returns
returns c = let l = c.loop-w in
    let ws = c.args.subs.now in
    omega (arith, l.invariant.0, l.invariant.1, rows_none l.w-index c.args.n ws (omega (arith, length-take c.end_of.result ws)))
