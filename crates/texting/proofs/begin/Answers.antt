use mathlib.Core.Path.{◌∙◌}
use Rattle.texting.proofs.Taking.{begun-empty, begun-open}
use Rattle.texting.proofs.begin.Goals as goal

pub returns-then-k-eq0 : goal.returns-then-k-eq0
returns-then-k-eq0 c = let a = c.args in c.fill.ensures.after (λ y e. e) ∙ begun-empty a.k a.block.now c.if-k-eq0.true

pub returns-else-k-eq0 : goal.returns-else-k-eq0
returns-else-k-eq0 c = let a = c.args in begun-open a.k a.block.now c.if-k-eq0.false
