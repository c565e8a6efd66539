use Prim.Native.Nat.{◌-◌}
use mathlib.Core.Path.{◌≡◌}
use lib.ListN.{length}
use Rattle.stationrun.proofs.CallSteps.{ahead}
use Rattle.stationfates.proofs.report_piece.Given as goal

abbrev pub invariant-loop-rt : goal.invariant-loop-rt
invariant-loop-rt l = (length l.heads ≡ length l.initial.heads) × (length l.subs ≡ length l.initial.subs) × (length l.rows ≡ length l.initial.rows) × (length l.own ≡ length l.initial.own) × (length l.events ≡ length l.initial.events) × (length l.gone ≡ length l.initial.gone) × (length l.block ≡ length l.initial.block) × (length l.out ≡ length l.initial.out)

abbrev pub decreases-loop-rt : goal.decreases-loop-rt
decreases-loop-rt l = ahead l.at (length l.piece - l.from)
