use Rattle.stationcalls.specs.Parts.{lent_all}
use Rattle.stationcalls.proofs.Queried.{short-is}
use Rattle.stationcalls.proofs.state_whole.Goals as goal

pub returns : goal.returns
returns c = short-is (lent_all c.args.heads.now c.args.subs.now c.args.rows.now c.args.own.now)
