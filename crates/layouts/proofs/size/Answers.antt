use Rattle.layouts.proofs.Rows.{ranged}
use native.Mathlib.Omega.{arith}
use Rattle.layouts.proofs.size.Goals as goal

pub overflow_sub-result : goal.overflow_sub-result
overflow_sub-result c = let r = ranged c.args.row c.requires in omega arith

pub overflow_add-result : goal.overflow_add-result
overflow_add-result c = let r = ranged c.args.row c.requires in omega arith
