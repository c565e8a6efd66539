use Rattle.reportlines.proofs.Blocks.{number_put}
use Rattle.stationreportlines.proofs.put_number.Goals as goal

pub returns : goal.returns
returns c = number_put c.args.n c.requires c.put_word.ensures
