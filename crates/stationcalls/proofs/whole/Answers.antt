use mathlib.Core.Path.{refl}
use Rattle.definition_station.specs.Station.{station_short}
use Rattle.stationcalls.proofs.whole.Goals as goal

pub returns : goal.returns
unfolding station_short
returns c = refl
