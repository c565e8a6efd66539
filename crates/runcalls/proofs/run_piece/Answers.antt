use Rattle.running.proofs.Files.{moves-on}
use native.Mathlib.Omega.{arith}
use Rattle.definition.specs.Layout.{lent}
use Rattle.runcalls.proofs.run_piece.Goals as goal

pub loop-from-smaller : goal.loop-from-smaller
loop-from-smaller c =
    let a = c.args in
    let l = c.loop-from in
    let k = c.run_piece-t in
    omega (arith, c.loop-from-test.true, moves-on l.at a.piece.now l.from (lent l.head l.subs l.rows) (lent k.new.head k.new.subs k.new.rows) l.events k.new.events l.block k.new.block l.out k.new.out k.result k.ensures c.loop-from-test.true)
