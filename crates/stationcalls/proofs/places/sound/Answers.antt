use Rattle.stationcalls.proofs.Placed.{sound-at}
use Rattle.stationcalls.proofs.places.sound.Goals as goal

pub returns : goal.returns
returns c = sound-at c.args.k c.args.heads.now c.args.subs.now c.args.rows.now c.requires c.sound.result c.sound.ensures
