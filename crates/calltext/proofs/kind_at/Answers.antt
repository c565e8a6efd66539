use mathlib.Core.Path.{refl}
use Rattle.calltext.specs.Names.{kinds}
use Rattle.calltext.proofs.kind_at.Goals as goal

pub returns : goal.returns
unfolding kinds
returns c = refl
