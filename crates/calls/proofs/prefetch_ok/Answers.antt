use Rattle.calls.specs.Ranges.{prefetches}
use Rattle.calls.proofs.prefetch_ok.Goals as goal

pub returns : goal.returns
unfolding prefetches
returns c = rw (c.unused.ensures, c.is_int.ensures)
