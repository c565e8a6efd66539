use Rattle.reportlines.proofs.Blocks.{letter-put}
use Rattle.stationreportlines.proofs.put_letter.Goals as goal

pub returns : goal.returns
returns c = letter-put c.requires c.put_byte.ensures
