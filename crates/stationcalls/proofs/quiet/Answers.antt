use Rattle.stationcalls.proofs.Steps.{asked-within, quiet-called}
use lib.ListN.{length}
use Rattle.stationcalls.proofs.quiet.Goals as goal

pub named_call-requires : goal.named_call-requires
named_call-requires c = asked-within c.args.heads.now c.args.subs.now c.args.rows.now c.args.own.now c.args.k c.args.c.code (length c.args.events.now) c.requires.0

pub returns : goal.returns
returns c = quiet-called c.args.heads.now c.args.subs.now c.args.rows.now c.args.own.now c.args.events.now c.args.k c.args.c.code c.args.c.words c.requires.0 c.named_call.new.heads c.named_call.new.subs c.named_call.new.rows c.named_call.new.events c.named_call.result c.requires.1 (c.named_call.ensures c.args.own.now) c.requires.2
