use Rattle.stationcalls.proofs.Placed.{at_part}
use Rattle.rejects.specs.Rejects.{buffer_rejected, Copied}
use Rattle.definition.specs.Layout.{Buffers}
use lib.ListN.{length}
use Rattle.stationcalls.proofs.places.rejected.Goals as goal

pub returns : goal.returns
returns c = at_part c.args.k c.args.heads.now c.args.subs.now c.args.rows.now c.requires (λ (b : Buffers). Copied (buffer_rejected b (length c.args.out.now) c.args.call.code c.args.call.words) c.rejected.result c.args.out.now c.rejected.new.out) c.rejected.ensures
