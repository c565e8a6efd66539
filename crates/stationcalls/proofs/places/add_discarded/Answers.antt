use Rattle.stationcalls.proofs.Placed.{placed}
use Rattle.definition.specs.Layout.{Buffers, buffer_call}
use Rattle.definition.specs.Calls.{discarding}
use lib.ListN.{length}
use Rattle.stationcalls.proofs.places.add_discarded.Goals as goal

pub returns : goal.returns
returns c = placed c.args.k c.args.heads.now c.args.subs.now c.args.rows.now c.requires c.add_discarded.new.head c.add_discarded.new.subs c.add_discarded.new.rows c.args.events.now c.add_discarded.new.events (λ (b : Buffers). buffer_call b (length c.args.events.now) discarding) c.add_discarded.result c.add_discarded.ensures
