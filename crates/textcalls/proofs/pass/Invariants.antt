use Prim.Native.Nat.{◌≤◌}
use mathlib.Core.Path.{◌≡◌}
use lib.ListN.{length}
use Rattle.textcalls.proofs.pass.Given as goal

abbrev pub invariant-loop : goal.invariant-loop
invariant-loop l = (1048576 ≡ length l.buf) × (length l.block ≡ 512) × (l.w.k ≤ 6)
