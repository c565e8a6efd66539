use mathlib.Core.Path.{ap, ◌∙◌}
use mathlib.Core.Bool.{Bool, not}
use Rattle.stationcalls.proofs.Eight.{number-high, number-low}
use Rattle.stationcalls.proofs.absent.Goals as goal

pub returns-then-number-gt7 : goal.returns-then-number-gt7
returns-then-number-gt7 c = number-high c.args.own.now c.args.number c.if-number-gt7.true

pub returns : goal.returns
returns c = ap (λ (x : Bool). not x) c.is_open.ensures ∙ number-low c.args.own.now c.args.number c.if-number-gt7.false
