use Rattle.calls.specs.Ranges.{joins}
use Rattle.calls.proofs.join_ok.Goals as goal

pub returns : goal.returns
unfolding joins
returns c = rw (c.unused.ensures, c.is_int.ensures)
