use Rattle.report.specs.Report.{lists_short}
use borrow.Author.Rules.{rules}
use Rattle.report.proofs.lists_short.Goals as goal

pub returns : goal.returns
unfolding lists_short
returns c = search rules
