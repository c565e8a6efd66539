use Rattle.std.proofs.Common.{rules, tests}
use Rattle.layouts.specs.Layouts.{row_in_range}
use Rattle.layouts.proofs.row_in_range.Goals as goal

pub returns-then-selector-le-LAST_SELECTOR : goal.returns-then-selector-le-LAST_SELECTOR
unfolding row_in_range
returns-then-selector-le-LAST_SELECTOR c = search (rules, tests)

pub returns-else-selector-le-LAST_SELECTOR : goal.returns-else-selector-le-LAST_SELECTOR
unfolding row_in_range
returns-else-selector-le-LAST_SELECTOR c = search (rules, tests)
