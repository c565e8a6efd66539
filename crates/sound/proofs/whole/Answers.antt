use mathlib.Core.Path.{refl}
use Rattle.definition.specs.Calls.{state_short}
use Rattle.sound.proofs.whole.Goals as goal

pub returns : goal.returns
unfolding state_short
returns c = refl
