use lib.ListN.{length-set}
use native.Mathlib.Omega.{arith}
use Rattle.stationcalls.proofs.own.open.Goals as goal

pub bounds-own-k-2 : goal.bounds-own-k-2
bounds-own-k-2 c = omega (arith, length-set c.args.own.now c.args.k 1, c.requires.0, c.requires.1)
