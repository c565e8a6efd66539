use mathlib.Core.Path.{refl}
use Rattle.definition.specs.Layout.{words_strict}
use Rattle.subrows.proofs.sub_marks_ok.Goals as goal

pub returns : goal.returns
unfolding words_strict
returns c = refl
