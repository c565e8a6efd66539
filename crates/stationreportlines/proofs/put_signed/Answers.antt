use Rattle.reportlines.proofs.Blocks.{signed-put}
use Rattle.stationreportlines.proofs.put_signed.Goals as goal

pub returns : goal.returns
returns c = signed-put c.args.w c.requires c.put_word.ensures
