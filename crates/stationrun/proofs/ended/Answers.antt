use Rattle.stationrun.proofs.CallSteps.{ended_so}
use Rattle.stationrun.proofs.ended.Goals as goal

pub returns : goal.returns
returns c = let a = c.args in ended_so a.at a.from a.written c.next_block-reading.ensures
