use native.Mathlib.Omega.{arith}
use Rattle.callfile.specs.Blocks.{number_at}
use Rattle.callfile.proofs.number_at.Goals as goal

pub returns : goal.returns
unfolding number_at
returns c = (omega arith, omega arith)
