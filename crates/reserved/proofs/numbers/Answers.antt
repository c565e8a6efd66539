use Rattle.acks.proofs.Flying.{or0-given}
use Rattle.reserved.proofs.numbers.Goals as goal

pub returns-in-Between : goal.returns-in-Between
returns-in-Between c = rw (c.in-Between.is, or0-given, c.unwrap_or.ensures)

pub returns-in-Cumulative : goal.returns-in-Cumulative
returns-in-Cumulative c = rw c.in-Cumulative.is

pub returns-in-Last : goal.returns-in-Last
returns-in-Last c = rw c.in-Last.is
