use mathlib.Core.Path.{◌≡◌}
use Prim.Native.Nat.{◌≤◌}
use lib.Seq.{slice}
use Rattle.definition.specs.Base.{all}
use Rattle.subrows.specs.Subrows.{row_ok, holder_ok}
use Rattle.subrows.proofs.entries_ok.Given as goal

abbrev pub invariant-loop-i : goal.invariant-loop-i
invariant-loop-i l = (l.i ≤ l.to) × (all row_ok (slice l.i l.to l.rows) ≡ all row_ok (slice l.from l.to l.rows)) × (all holder_ok (slice l.i l.to l.rows) ≡ all holder_ok (slice l.from l.to l.rows))
