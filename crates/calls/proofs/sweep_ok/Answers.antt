use Rattle.calls.specs.Ranges.{sweeps}
use Rattle.calls.proofs.sweep_ok.Goals as goal

pub returns : goal.returns
unfolding sweeps
returns c = rw c.unused.ensures
