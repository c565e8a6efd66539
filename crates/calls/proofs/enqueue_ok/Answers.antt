use Rattle.calls.specs.Ranges.{enqueues}
use Rattle.calls.proofs.enqueue_ok.Goals as goal

pub returns : goal.returns
unfolding enqueues
returns c = rw c.is_int.ensures
