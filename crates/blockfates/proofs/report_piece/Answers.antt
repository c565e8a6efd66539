use Rattle.definition.specs.Layout.{lent}
use Rattle.reporting.proofs.Hearing.{moves-on}
use native.Mathlib.Omega.{arith}
use Rattle.blockfates.proofs.report_piece.Goals as goal

pub loop-from-smaller : goal.loop-from-smaller
loop-from-smaller c =
    let a = c.args in
    let l = c.loop-from in
    let k = c.report_piece-t in
    let h = c.loop-from-test.true in
    omega (arith, h, moves-on l.at a.piece.now l.from (lent l.head l.subs l.rows) (lent k.new.head k.new.subs k.new.rows) l.events k.new.events l.held k.new.held l.kept l.block k.new.block l.out k.new.out k.result k.ensures h)
