use Rattle.acks.proofs.ranged.Goals as goal

pub returns-in-Empty : goal.returns-in-Empty
returns-in-Empty c = rw c.in-Empty.is c.none.ensures

pub returns-in-Between : goal.returns-in-Between
returns-in-Between c = rw (c.in-Between.is, c.min.ensures)

pub returns-in-Cumulative : goal.returns-in-Cumulative
returns-in-Cumulative c = rw c.in-Cumulative.is

pub returns-in-Last : goal.returns-in-Last
returns-in-Last c = rw c.in-Last.is
