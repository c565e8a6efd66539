use mathlib.Core.Path.{◌≡◌}
use mathlib.Core.Bool.{true, not}
use Prim.Native.Nat.{◌≤◌}
use lib.ListN.{drop}
use lib.Seq.{slice}
use Rattle.definition.specs.Base.{all, member, ascending}
use Rattle.subrows.specs.Subrows.{seqs_at}
use Rattle.sound.specs.Sound.{SameFrom}
use Rattle.sound.proofs.none_waits.Given as goal

abbrev pub invariant-loop-x : goal.invariant-loop-x
invariant-loop-x l = (l.at ≤ l.to) × SameFrom l.last (seqs_at (slice l.from l.to l.rows)) (seqs_at (slice l.at l.to l.rows)) × (ascending (seqs_at (slice l.at l.to l.rows)) ≡ true) × (all (λ x. not (member x (seqs_at (slice l.from l.to l.rows)))) (drop l.x-index l.xs) ≡ all (λ x. not (member x (seqs_at (slice l.from l.to l.rows)))) l.xs)
