use mathlib.Core.Path.{◌∙◌}
use Rattle.texting.proofs.Taking.{ended-full, ended-open}
use Rattle.texting.proofs.end.Goals as goal

pub returns-then-k-eq-FULL : goal.returns-then-k-eq-FULL
returns-then-k-eq-FULL c = let a = c.args in c.seal.ensures ∙ ended-full a.k a.block.now c.if-k-eq-FULL.true

pub returns-else-k-eq-FULL : goal.returns-else-k-eq-FULL
returns-else-k-eq-FULL c = let a = c.args in ended-open a.k a.block.now c.if-k-eq-FULL.false
