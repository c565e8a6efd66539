use mathlib.Core.Path.{◌≡◌}
use Prim.Native.Nat.{◌+◌, ◌*◌, ◌≤◌}
use lib.ListN.{take, drop}
use Rattle.queries.specs.Bytes.{sizes_of}
use Rattle.queries.proofs.each.Given as goal

abbrev pub invariant-loop-row : goal.invariant-loop-row
invariant-loop-row l = (l.sum ≤ l.row-index * 4294967295) × (l.sum + sizes_of (drop l.row-index (take l.n l.rows)) ≡ sizes_of (take l.n l.rows))
