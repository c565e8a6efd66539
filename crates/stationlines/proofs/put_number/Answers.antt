use Rattle.stationlines.proofs.Named.{number_put}
use Rattle.stationlines.proofs.put_number.Goals as goal

pub returns : goal.returns
returns c = number_put c.args.n c.requires c.put_word.ensures
