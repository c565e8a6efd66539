use Rattle.stationlines.proofs.Named.{letter-put}
use Rattle.stationlines.proofs.put_letter.Goals as goal

pub returns : goal.returns
returns c = letter-put c.requires c.put_byte.ensures
