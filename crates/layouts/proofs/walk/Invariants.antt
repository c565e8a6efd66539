use mathlib.Core.Path.{◌≡◌}
use lib.ListN.{drop}
use Rattle.layouts.specs.Steps.{walk}
use Rattle.layouts.proofs.walk.Given as goal

abbrev pub invariant-loop-row : goal.invariant-loop-row
invariant-loop-row l = walk l.reached (drop l.row-index l.table) ≡ walk l.at l.table
