use native.Mathlib.Omega.{arith}
use lib.ListN.{length-set, set}
use Rattle.stationcalls.proofs.Eight.{clear_none, clear-turn, cleared}
use Rattle.stationcalls.proofs.own.start.Goals as goal

pub loop-k-init : goal.loop-k-init
loop-k-init c = clear_none c.args.own.now c.requires

pub bounds-own-k : goal.bounds-own-k
bounds-own-k c = omega (arith, c.loop-k.invariant.same, c.loop-k.invariant.long, c.loop-k-test.true)

pub loop-k-preserved : goal.loop-k-preserved
loop-k-preserved c = clear-turn c.args.own.now c.loop-k.own c.loop-k.k c.loop-k.invariant c.loop-k-test.true

pub bounds-own-16 : goal.bounds-own-16
bounds-own-16 c = omega (arith, c.loop-k.invariant.same, c.loop-k.invariant.long)

pub bounds-own-17 : goal.bounds-own-17
bounds-own-17 c = omega (arith, length-set c.loop-k.own 16 1, c.loop-k.invariant.same, c.loop-k.invariant.long)

pub shape_of-own : goal.shape_of-own
shape_of-own c = omega (arith, length-set (set c.loop-k.own 16 1) 17 0, length-set c.loop-k.own 16 1, c.loop-k.invariant.same)

pub returns : goal.returns
returns c = cleared c.args.own.now c.loop-k.own c.loop-k.k c.loop-k.invariant c.loop-k-test.false
