use Prim.Native.Nat.{◌-◌}
use mathlib.Core.Path.{◌≡◌}
use lib.ListN.{length}
use Rattle.blockfates.proofs.report_piece.Given as goal

abbrev pub invariant-loop-from : goal.invariant-loop-from
invariant-loop-from l = (length l.head ≡ length l.initial.head) × (length l.subs ≡ length l.initial.subs) × (length l.rows ≡ length l.initial.rows) × (length l.events ≡ length l.initial.events) × (length l.held ≡ length l.initial.held) × (length l.block ≡ length l.initial.block) × (length l.out ≡ length l.initial.out)

abbrev pub decreases-loop-from : goal.decreases-loop-from
decreases-loop-from l = length l.piece - l.from
