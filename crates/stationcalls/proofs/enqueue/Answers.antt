use Rattle.stationcalls.proofs.Steps.{next-few, asked-within, asked-own, enqueue-refused, enqueue-accepted}
use lib.ListN.{length}
use native.Mathlib.Omega.{arith}
use Rattle.stationcalls.proofs.enqueue.Goals as goal

pub next-next-requires : goal.next-next-requires
next-next-requires c = asked-own c.args.heads.now c.args.subs.now c.args.rows.now c.args.own.now c.args.k c.args.c.code (length c.args.events.now) c.requires.0

pub named_call-r-requires : goal.named_call-r-requires
named_call-r-requires c = asked-within c.args.heads.now c.args.subs.now c.args.rows.now c.args.own.now c.args.k c.args.c.code (length c.args.events.now) c.requires.0

pub returns-then-r-ne0 : goal.returns-then-r-ne0
returns-then-r-ne0 c = enqueue-refused c.args.heads.now c.args.subs.now c.args.rows.now c.args.own.now c.args.events.now c.args.k c.args.c.code c.args.c.words c.requires.0 c.named_call-r.new.heads c.named_call-r.new.subs c.named_call-r.new.rows c.named_call-r.new.events c.named_call-r.result c.requires.1 c.next-next.result c.next-next.ensures c.carried-given.result c.carried-given.ensures (c.named_call-r.ensures c.args.own.now) c.if-r-ne0.true

pub overflow_add-next : goal.overflow_add-next
overflow_add-next c = omega (arith, next-few c.args.own.now c.requires.0.own-ok, c.next-next.ensures)

pub set_next-requires : goal.set_next-requires
set_next-requires c = asked-own c.args.heads.now c.args.subs.now c.args.rows.now c.args.own.now c.args.k c.args.c.code (length c.args.events.now) c.requires.0

pub returns : goal.returns
returns c = enqueue-accepted c.args.heads.now c.args.subs.now c.args.rows.now c.args.own.now c.args.events.now c.args.k c.args.c.code c.args.c.words c.requires.0 c.named_call-r.new.heads c.named_call-r.new.subs c.named_call-r.new.rows c.named_call-r.new.events c.named_call-r.result c.requires.1 c.next-next.result c.next-next.ensures c.carried-given.result c.carried-given.ensures (c.named_call-r.ensures c.args.own.now) c.if-r-ne0.false c.set_next.new.own c.set_next.ensures
