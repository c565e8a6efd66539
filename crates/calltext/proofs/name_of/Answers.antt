use Rattle.std.proofs.Common.{rules}
use Rattle.calltext.specs.Names.{names}
use Rattle.calltext.proofs.name_of.Goals as goal

pub returns : goal.returns
unfolding names
returns c = search rules
