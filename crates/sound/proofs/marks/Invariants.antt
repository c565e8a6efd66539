use mathlib.Core.Path.{◌≡◌}
use mathlib.Core.Bool.{true}
use Prim.Native.Nat.{◌≤◌}
use lib.ListN.{length, take, drop}
use lib.Seq.{slice}
use Rattle.definition.specs.Base.{ascending}
use Rattle.subrows.specs.Subrows.{seqs_at}
use Rattle.sound.specs.Sound.{SameFrom, Met}
use Rattle.sound.proofs.marks.Given as goal

abbrev pub invariant-loop-i : goal.invariant-loop-i
invariant-loop-i l = (l.i ≤ l.n) × (l.at ≤ l.end) × SameFrom l.last (seqs_at (slice l.first l.end l.rows)) (seqs_at (slice l.at l.end l.rows)) × (ascending (seqs_at (slice l.at l.end l.rows)) ≡ true) × (length l.slots ≡ length l.initial.slots) × Met l.initial.slots l.slots (seqs_at (slice l.first l.end l.rows)) (seqs_at (take l.i (drop l.from l.rows)))
