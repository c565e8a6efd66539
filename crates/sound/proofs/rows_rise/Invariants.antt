use mathlib.Core.Path.{◌≡◌}
use Prim.Native.Nat.{◌≤◌}
use lib.Seq.{slice}
use Rattle.definition.specs.Base.{rising}
use Rattle.subrows.specs.Subrows.{seqs_at}
use Rattle.sound.proofs.rows_rise.Given as goal

abbrev pub invariant-loop-i : goal.invariant-loop-i
invariant-loop-i l = (l.i ≤ l.to) × (rising l.last (seqs_at (slice l.i l.to l.rows)) ≡ rising 0 (seqs_at (slice l.from l.to l.rows)))
