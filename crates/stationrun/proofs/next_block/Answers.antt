use Rattle.stationrun.proofs.CallSteps.{next-so}
use Rattle.stationrun.proofs.next_block.Goals as goal

pub returns : goal.returns
returns c = let a = c.args in next-so a.at a.index a.on c.more_of.ensures
