use mathlib.Core.Path.{◌≡◌}
use lib.ListN.{drop}
use Rattle.layouts.specs.Layouts.{first, is_overlap}
use Rattle.layouts.specs.Steps.{lowest_of, overlap_of}
use Rattle.layouts.proofs.overlap.Given as goal

abbrev pub invariant-loop-row : goal.invariant-loop-row
invariant-loop-row l = lowest_of (is_overlap l.table) first l.lowest (drop l.row-index l.table) ≡ overlap_of l.table
