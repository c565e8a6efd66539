use mathlib.Core.Path.{◌≡◌}
use Prim.Native.Nat.{◌+◌, ◌≤◌}
use lib.ListN.{drop}
use Rattle.definition.specs.Layout.{sub_rows}
use Rattle.subrows.proofs.sub_rows.Given as goal

abbrev pub invariant-loop-w : goal.invariant-loop-w
invariant-loop-w l = (l.room ≤ 512) × (sub_rows (drop l.w-index l.subs) + 512 ≡ sub_rows l.subs + l.room)
