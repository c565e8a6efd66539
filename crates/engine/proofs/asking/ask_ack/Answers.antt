use mathlib.Core.Path.{refl}
use Rattle.acks.specs.Acks.{ack_of}
use Rattle.engine.proofs.Worded.{ack-clock, ack-performs}
use Rattle.engine.proofs.asking.ask_ack.Goals as goal

pub ack-head-requires : goal.ack-head-requires
ack-head-requires c =
    let a = c.args in
    let p = c.requires in
    (p.0, ack-clock a.w p.1)

pub returns : goal.returns
returns c =
    let a = c.args in
    let p = c.requires in
    let k = c.ack-head in
    ack-performs a.w a.d k.result _ a.subs.now a.rows.now a.events.now k.new.subs k.new.rows k.new.events c.of_words-id.result c.of_words-id.ensures
    p.1 refl (ack_of c.ack_of-a.result) c.ack_of-a.ensures k.ensures
