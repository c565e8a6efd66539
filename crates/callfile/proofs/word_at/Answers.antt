use native.Mathlib.Omega.{arith}
use Rattle.callfile.specs.Blocks.{word_at}
use Rattle.callfile.proofs.word_at.Goals as goal

pub returns : goal.returns
unfolding word_at
returns c = omega arith
