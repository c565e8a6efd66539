use Rattle.acks.specs.Acks.{ack_of}
use Rattle.acks.proofs.Whole.{own_at, acked-at}
use Rattle.engine.proofs.acking.ack_at.Goals as goal

pub ack_one-r-requires : goal.ack_one-r-requires
ack_one-r-requires c =
    let a = c.args in
    let pre = c.requires in
    (own_at a.subs.now a.rows.now a.events.now a.d pre.0 a.i pre.1 _ _ c.base_of-base.ensures c.load-s.ensures, pre.0.events-long)

pub returns : goal.returns
returns c =
    let a = c.args in
    let pre = c.requires in
    acked-at a.subs.now a.rows.now a.events.now a.d pre.0 a.i pre.1 _ _ c.base_of-base.ensures c.load-s.ensures (ack_of a.a) _ _ _ _ _ c.store.ensures c.ack_one-r.ensures
