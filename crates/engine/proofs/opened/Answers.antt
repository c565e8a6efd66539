use Rattle.engine.specs.Opened.{opened_head}
use Rattle.engine.proofs.opened.Goals as goal

pub returns : goal.returns
unfolding opened_head
returns c = rw c.share_of.ensures
