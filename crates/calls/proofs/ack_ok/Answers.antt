use Rattle.calls.specs.Ranges.{acks}
use Rattle.calls.proofs.ack_ok.Goals as goal

pub returns : goal.returns
unfolding acks
returns c = rw (c.flag_of.ensures, c.flag_of-2.ensures, c.unused.ensures)
