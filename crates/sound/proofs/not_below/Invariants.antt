use mathlib.Core.Path.{◌≡◌}
use mathlib.Core.Bool.{true}
use Prim.Native.Nat.{◌≤◌}
use lib.Seq.{slice}
use Rattle.definition.specs.Base.{ascending}
use Rattle.subrows.specs.Subrows.{seqs_at}
use Rattle.sound.specs.Sound.{SameFrom}
use Rattle.sound.proofs.not_below.Given as goal

abbrev pub invariant-loop-i : goal.invariant-loop-i
invariant-loop-i l = (l.i ≤ l.to) × SameFrom l.x (seqs_at (slice l.from l.to l.rows)) (seqs_at (slice l.i l.to l.rows)) × (ascending (seqs_at (slice l.i l.to l.rows)) ≡ true)
