use Rattle.acks.specs.Acks.{ack_of}
use Rattle.rejects.proofs.Words.{not-ack, ack-in-part, ack-by-type}
use Rattle.rejects.proofs.rejects.Goals as goal

pub returns-then-c-ne-ACK : goal.returns-then-c-ne-ACK
returns-then-c-ne-ACK c = let a = c.args in not-ack a.c.code a.c.words c.if-c-ne-ACK.true

pub returns-then-a : goal.returns-then-a
returns-then-a c =
    let a = c.args in
    ack-in-part a.c.code a.c.words c.if-c-ne-ACK.false (ack_of c.ack_of-a.result) c.ack_of-a.ensures c.if-a.true

pub returns : goal.returns
returns c =
    let a = c.args in
    ack-by-type a.c.code a.c.words c.if-c-ne-ACK.false (ack_of c.ack_of-a.result) c.ack_of-a.ensures c.if-a.false
