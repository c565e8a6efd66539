use Rattle.stationcalls.proofs.Placed.{placed}
use Rattle.definition.specs.Layout.{Buffers, buffer_call}
use Rattle.definition.specs.Calls.{missing}
use lib.ListN.{length}
use Rattle.stationcalls.proofs.places.expired_before_storing.Goals as goal

pub returns : goal.returns
returns c = placed c.args.k c.args.heads.now c.args.subs.now c.args.rows.now c.requires c.expired_before_storing.new.head c.expired_before_storing.new.subs c.expired_before_storing.new.rows c.args.events.now c.expired_before_storing.new.events (λ (b : Buffers). buffer_call b (length c.args.events.now) missing) c.expired_before_storing.result c.expired_before_storing.ensures
