use mathlib.Core.Path.{refl}
use Rattle.consumers.specs.Consumers.{row_sub}
use Rattle.consumers.proofs.sub_of.Goals as goal

pub returns : goal.returns
unfolding row_sub
returns c = refl
