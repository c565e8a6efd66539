use mathlib.Core.Path.{ap}
use Rattle.destination.specs.Exported.{as_counters}
use Rattle.destination.proofs.exported.destination_counters.Goals as goal

pub returns : goal.returns
returns c = ap as_counters c.counters-c.ensures
