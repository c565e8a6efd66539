use mathlib.Core.Path.{◌≡◌}
use Rattle.layouts.proofs.Lanes.{filled}
use Rattle.layouts.proofs.column.Given as goal

abbrev pub invariant-loop-i : goal.invariant-loop-i
invariant-loop-i l = l.out ≡ filled l.table l.k l.padding l.i
