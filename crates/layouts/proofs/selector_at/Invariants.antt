use mathlib.Core.Path.{◌≡◌}
use lib.ListN.{drop}
use Rattle.layouts.specs.Layouts.{selector_at}
use Rattle.layouts.proofs.selector_at.Given as goal

abbrev pub invariant-loop-row : goal.invariant-loop-row
invariant-loop-row l = selector_at (drop l.row-index l.table) l.layout ≡ selector_at l.table l.layout
