use Rattle.fates.specs.Blocks.{went_as}
use borrow.Author.Rules.{rules}
use Rattle.report.proofs.went.Goals as goal

pub returns : goal.returns
unfolding went_as
returns c = search rules
