use Rattle.stationlines.proofs.Named.{signed-put}
use Rattle.stationlines.proofs.put_signed.Goals as goal

pub returns : goal.returns
returns c = signed-put c.args.w c.requires c.put_word.ensures
