use Rattle.stationlines.proofs.Named.{place-put}
use Rattle.stationlines.proofs.put_place.Goals as goal

pub returns : goal.returns
returns c = (c.put_number.ensures.0, place-put c.args.d c.requires.1 c.put_number.ensures.0)
