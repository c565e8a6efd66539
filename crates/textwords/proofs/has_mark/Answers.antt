use mathlib.Core.Path.{◌∙◌}
use mathlib.Core.List.{[], ◌∷◌}
use lib.ListN.{take}
use Rattle.textwords.specs.Text.{has_mark}
use Rattle.textwords.proofs.Scanning.{same-turned}
use Rattle.textwords.proofs.has_mark.Goals as goal

pub returns : goal.returns
unfolding has_mark
returns c = c.starts_with.ensures.value ∙ same-turned (239 ∷ 187 ∷ 191 ∷ []) (take 3 c.args.text.now)
