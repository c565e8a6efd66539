use mathlib.Core.Path.{◌≡◌}
use Prim.Native.Nat.{◌+◌, ◌*◌, ◌≤◌}
use lib.ListN.{drop}
use Rattle.layouts.specs.Steps.{sizes}
use Rattle.layouts.proofs.sizes.Given as goal

abbrev pub invariant-loop-row : goal.invariant-loop-row
invariant-loop-row l = (l.sum ≤ 65536 * l.row-index) × (l.sum + sizes (drop l.row-index l.table) ≡ sizes l.table)
