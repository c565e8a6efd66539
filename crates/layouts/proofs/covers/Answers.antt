use Rattle.std.proofs.Common.{rules, tests}
use Rattle.layouts.specs.Layouts.{covers}
use Rattle.layouts.proofs.covers.Goals as goal

pub returns-then-row-layout : goal.returns-then-row-layout
unfolding covers
returns-then-row-layout c = search (rules, tests)

pub returns-else-row-layout : goal.returns-else-row-layout
unfolding covers
returns-else-row-layout c = search (rules, tests)
