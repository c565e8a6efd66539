use mathlib.Core.Path.{◌≡◌}
use Prim.Native.Nat.{◌+◌, ◌≤◌}
use lib.ListN.{take}
use lib.Seq.{slice}
use Rattle.definition.specs.Layout.{sub_rows}
use Rattle.consumers.proofs.base_of.Given as goal

abbrev pub invariant-loop-w : goal.invariant-loop-w
invariant-loop-w l = (l.base ≤ 512) × (l.base + sub_rows (slice l.w-index l.n l.subs) ≡ sub_rows (take l.n l.subs))
