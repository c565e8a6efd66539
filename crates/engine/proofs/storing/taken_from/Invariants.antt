use mathlib.Core.Path.{◌≡◌}
use Prim.Native.Nat.{◌+◌, ◌≤◌}
use lib.ListN.{take}
use lib.Seq.{slice}
use Rattle.definition.specs.Layout.{sub_rows}
use Rattle.engine.specs.Shares.{taken_from}
use Rattle.engine.proofs.storing.taken_from.Given as goal

abbrev pub invariant-loop-i : goal.invariant-loop-i
invariant-loop-i l =
    (l.i ≤ l.n) × (l.count ≤ l.base) × (l.base + sub_rows (slice l.i l.n l.subs) ≡ sub_rows (take l.n l.subs)) × (l.count + taken_from l.queue l.conn l.base (slice l.i l.n l.subs) l.rows ≡ taken_from l.queue l.conn 0 (take l.n l.subs) l.rows)
