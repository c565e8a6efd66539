use mathlib.Core.Path.{◌≡◌}
use mathlib.Core.Bool.{false}
use Prim.Native.Nat.{◌≤◌}
use lib.ListN.{take}
use Rattle.definition.specs.Layout.{sub_rows}
use Rattle.engine.specs.Storing.{holds}
use Rattle.engine.proofs.storing.is_fanned_out.Given as goal

abbrev pub invariant-loop-i : goal.invariant-loop-i
invariant-loop-i l = (l.i ≤ l.n) × (l.base ≡ sub_rows (take l.i (take l.n l.subs))) × (holds l.seq (take l.base l.rows) ≡ false)
