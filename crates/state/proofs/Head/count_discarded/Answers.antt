use mathlib.Core.Path.{ap}
use Rattle.stats.specs.declared.Stats.{Stats}
use Rattle.state.specs.State.{with_counters}
use Rattle.state.proofs.Head.count_discarded.Goals as goal

pub returns : goal.returns
returns c = ap (λ (s : Stats). with_counters s c.args.self) c.count_discarded_by.ensures
