use Rattle.calls.specs.Ranges.{clocked}
use Rattle.calls.proofs.clocked_ok.Goals as goal

pub returns : goal.returns
unfolding clocked
returns c = rw c.unused.ensures
