use Rattle.program.proofs.Laws.{reads_all, reads-some}
use Rattle.program.proofs.read_of.Goals as goal

pub returns-then-at-ne0 : goal.returns-then-at-ne0
returns-then-at-ne0 c = let a = c.args in reads_all a.block a.at c.if-at-ne0.true

pub returns : goal.returns
returns c = let a = c.args in reads-some a.block a.at c.if-at-ne0.false
