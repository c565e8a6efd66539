use mathlib.Core.Path.{◌∙◌}
use Rattle.textwords.proofs.Scanning.{same-equal}
use Rattle.textwords.proofs.same.Goals as goal

pub returns : goal.returns
returns c = c.eq.ensures ∙ same-equal c.args.a.now c.args.b.now
