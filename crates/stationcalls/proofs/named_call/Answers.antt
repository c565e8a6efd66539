use mathlib.Core.List.{[]}
use Rattle.stationcalls.specs.Parts.{lent_all}
use Rattle.stationcalls.proofs.Plain.{sent-fits, named-at}
use Rattle.stationcalls.proofs.named_call.Goals as goal

pub name_all-requires : goal.name_all-requires
name_all-requires c = (sent-fits c.args.k c.args.c.code c.args.c.words (lent_all c.args.heads.now c.args.subs.now c.args.rows.now []) (lent_all c.call-r.new.heads c.call-r.new.subs c.call-r.new.rows []) c.args.events.now c.call-r.new.events c.call-r.result c.requires.1 (c.call-r.ensures []), c.requires.0.is-place)

pub returns : goal.returns
returns c = λ own. named-at c.args.k c.args.c.code c.args.c.words (lent_all c.args.heads.now c.args.subs.now c.args.rows.now own) (lent_all c.call-r.new.heads c.call-r.new.subs c.call-r.new.rows own) c.args.events.now c.call-r.new.events c.call-r.result c.requires.1 (c.call-r.ensures own) c.name_all.new.events c.name_all.ensures
