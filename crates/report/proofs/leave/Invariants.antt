use mathlib.Core.Path.{◌≡◌}
use Prim.Native.Nat.{◌+◌, ◌≤◌}
use lib.ListN.{length, take}
use lib.Seq.{sets, slice}
use Rattle.report.specs.Report.{leavers_of}
use Rattle.report.proofs.leave.Given as goal

abbrev pub invariant-loop-i : goal.invariant-loop-i
invariant-loop-i l = (l.i ≤ l.n) × (l.hint ≤ l.m) × (l.k ≤ l.start + l.i) × (length l.left ≡ length l.initial.left) × (l.k + length (leavers_of l.code l.words (take l.m l.held) (slice l.i l.n l.blocks)) ≡ l.start + length (leavers_of l.code l.words (take l.m l.held) (take l.n l.blocks))) × (sets l.left l.k (leavers_of l.code l.words (take l.m l.held) (slice l.i l.n l.blocks)) ≡ sets l.initial.left l.start (leavers_of l.code l.words (take l.m l.held) (take l.n l.blocks)))
