use mathlib.Core.Path.{sym}
use Rattle.layouts.proofs.Gaps.{next-on, next-none}
use Rattle.layouts.proofs.next.Goals as goal

pub returns-then-row-lt-LAST_LAYOUT : goal.returns-then-row-lt-LAST_LAYOUT
returns-then-row-lt-LAST_LAYOUT c = sym (next-on c.args.row c.if-row-lt-LAST_LAYOUT.true)

pub returns-else-row-lt-LAST_LAYOUT : goal.returns-else-row-lt-LAST_LAYOUT
returns-else-row-lt-LAST_LAYOUT c = sym (next-none c.args.row c.if-row-lt-LAST_LAYOUT.false)
