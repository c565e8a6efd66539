use Rattle.stationcalls.proofs.Tell.{more-below, more-above}
use Rattle.stationcalls.proofs.own.one_more.Goals as goal

pub returns-then-lost-lt-LOST_MOST : goal.returns-then-lost-lt-LOST_MOST
returns-then-lost-lt-LOST_MOST c = more-below c.args.lost c.if-lost-lt-LOST_MOST.true

pub returns-else-lost-lt-LOST_MOST : goal.returns-else-lost-lt-LOST_MOST
returns-else-lost-lt-LOST_MOST c = more-above c.args.lost c.if-lost-lt-LOST_MOST.false
