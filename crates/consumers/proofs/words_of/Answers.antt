use mathlib.Core.Path.{refl}
use Rattle.consumers.specs.Consumers.{sub_words}
use Rattle.consumers.proofs.words_of.Goals as goal

pub returns : goal.returns
unfolding sub_words
returns c = refl
