use Rattle.reportlines.proofs.Blocks.{number_put}
use Rattle.reportlines.proofs.put_number.Goals as goal

pub returns : goal.returns
returns c = number_put c.args.n c.requires c.put_word.ensures
