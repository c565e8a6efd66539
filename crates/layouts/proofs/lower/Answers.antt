use Rattle.std.proofs.Common.{rules, tests}
use Rattle.layouts.specs.Steps.{lower}
use Rattle.layouts.proofs.lower.Goals as goal
use Rattle.layouts.proofs.lower.Goals.{else-at-lowest-via-then-at-lowest+else-found, else-at-lowest-via-else-at-lowest}

pub returns-then-found : goal.returns-then-found
unfolding lower
returns-then-found c = search (rules, tests)

pub returns-else-at-lowest : goal.returns-else-at-lowest
unfolding lower
returns-else-at-lowest c = elim c.else-at-lowest.branch [
  | else-at-lowest-via-then-at-lowest+else-found w ↦ search (rules, tests)
  | else-at-lowest-via-else-at-lowest w ↦ search (rules, tests)
]
