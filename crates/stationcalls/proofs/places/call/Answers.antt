use lib.ListN.{length}
use Rattle.definition.specs.Layout.{Buffers, buffer_step}
use Rattle.stationcalls.proofs.Placed.{placed}
use Rattle.stationcalls.proofs.places.call.Goals as goal

pub returns : goal.returns
returns c =
    let a = c.args in
    let p = c.requires in
    let k = c.call in
    placed a.k a.heads.now a.subs.now a.rows.now p k.new.head k.new.subs k.new.rows a.events.now k.new.events (λ (b : Buffers). buffer_step b (length a.events.now) a.call.code a.call.words) k.result k.ensures
