use Rattle.layouts.proofs.Rows.{ranged}
use native.Mathlib.Omega.{arith}
use Rattle.layouts.proofs.start.Goals as goal

pub overflow_cast-result : goal.overflow_cast-result
overflow_cast-result c = let r = ranged c.args.row c.requires in omega arith
