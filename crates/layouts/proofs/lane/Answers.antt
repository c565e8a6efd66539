use Rattle.std.proofs.Common.{rules, tests}
use Rattle.layouts.specs.Steps.{lane}
use Rattle.layouts.proofs.lane.Goals as goal

pub returns-then-first-layout : goal.returns-then-first-layout
unfolding lane
returns-then-first-layout c = search (rules, tests)

pub returns-else-first-layout : goal.returns-else-first-layout
unfolding lane
returns-else-first-layout c = search (rules, tests)
