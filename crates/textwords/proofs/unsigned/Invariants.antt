use Prim.Native.Nat.{◌<◌, ◌^◌}
use mathlib.Core.Path.{◌≡◌}
use lib.ListN.{length, drop}
use Rattle.textwords.specs.Numbers.{digits_after}
use Rattle.textwords.proofs.unsigned.Given as goal

abbrev pub invariant-loop-b : goal.invariant-loop-b
invariant-loop-b l = (0 < length l.s) × (l.n < 2 ^ 64) × (digits_after l.n (drop l.b-index l.s) ≡ digits_after 0 l.s)
