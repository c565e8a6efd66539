use Rattle.calls.specs.Ranges.{timed}
use Rattle.calls.proofs.timed_ok.Goals as goal

pub returns : goal.returns
unfolding timed
returns c = rw c.unused.ensures
