use mathlib.Core.Path.{◌≡◌}
use lib.ListN.{drop}
use Rattle.layouts.specs.Layouts.{is_gap}
use Rattle.layouts.specs.Steps.{next, lowest_of, gap_of}
use Rattle.layouts.proofs.gap.Given as goal

abbrev pub invariant-loop-row : goal.invariant-loop-row
invariant-loop-row l = lowest_of (is_gap l.table) next l.lowest (drop l.row-index l.table) ≡ gap_of l.table
