use Rattle.stationreportlines.proofs.Rows.{place-put}
use Rattle.stationreportlines.proofs.put_place.Goals as goal

pub returns : goal.returns
returns c = place-put c.args.place c.requires c.put_name.ensures
