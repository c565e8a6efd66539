use mathlib.Core.Path.{◌≡◌}
use Prim.Native.Nat.{◌≤◌}
use lib.Seq.{slice}
use Rattle.subrows.specs.Subrows.{flying_ok}
use Rattle.subrows.proofs.flying_ok.Given as goal

abbrev pub invariant-loop-i : goal.invariant-loop-i
invariant-loop-i l = (l.i ≤ l.to) × (l.least ≤ l.next) × (l.count ≤ l.i) × (flying_ok l.least l.count l.next l.freed (slice l.i l.to l.rows) ≡ flying_ok 0 0 l.next l.freed (slice l.from l.to l.rows))
