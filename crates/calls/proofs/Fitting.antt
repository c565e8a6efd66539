-- The words of an array that is passed by value are 64-bit words; a word has no bit above 63. Assumes nothing.
use Prim.Native.Nat.{ℕ, zero, suc, ◌≤◌, ◌<◌, ◌/◌, ◌^◌}
use mathlib.Core.Path.{◌≡◌}
use mathlib.Core.Bool.{false}
use mathlib.Core.List.{List, [], ◌∷◌}
use native.Mathlib.Nat.{pow-le-pow_right, div-eq_of_lt, lt_of_lt_of_le}
use native.Mathlib.Omega.{arith}
use lib.ListN.{get_or}
use mir.Syntax.{w64}
use mir.Val.{Val}
use denote.Plain.{UInt}
use denote.Shadow.{shadow}
use denote.Array.{each}
use Rattle.entry.specs.Entry.{bit}

-- what a function is told of such an array
pub words-fit : (ws : List ℕ) (vs : List Val) → shadow (each ℕ (UInt w64).own_val ws vs) → (k : ℕ) → get_or ws k 0 < 2 ^ 64
words-fit [] [] s k = omega arith
words-fit [] (v ∷ vs) s k = absurd s
words-fit (w ∷ ws) [] s k = absurd s
words-fit (w ∷ ws) (v ∷ vs) s zero = s.0.1
words-fit (w ∷ ws) (v ∷ vs) s (suc k) = words-fit ws vs s.1 k

pub bit-above : (w k : ℕ) → w < 2 ^ 64 → 64 ≤ k → bit w k ≡ false
bit-above w k h l = let e : w / 2 ^ k ≡ 0 = div-eq_of_lt (lt_of_lt_of_le h (pow-le-pow_right (omega arith) l)) in rw e
