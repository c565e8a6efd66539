-- The saturating step of a redelivery counter, an i32. Assumes nothing.
use mathlib.Core.Path.{◌≡◌, refl, ap}
use mathlib.Core.Bool.{true}
use Prim.Native.Nat.{zero, suc, ◌<◌, ◌≤◌, ◌^◌}
use native.Mathlib.Numerals.{add-one}
use native.Mathlib.Omega.{arith}
use borrow.Author.Tests.{ltb-true, ltb-false, lt-ltb}
use lib.Dec.{ltb}
use lib.IntN.{ℤ, pos, negsuc, suc_ℤ, ◌+ℤ◌}
use lib.Signed.{lt_z}
use mir.Syntax.{w32}
use mir.Val.{SFits}
use Rattle.std.specs.Int.{saturate_signed}
use Rattle.words.proofs.Tests.{by-test}
use Rattle.entry.specs.Entry.{one_more}

pub plus_one : (r : ℤ) → r +ℤ pos 1 ≡ suc_ℤ r
plus_one (pos n) = ap pos (add-one n)
plus_one (negsuc zero) = refl
plus_one (negsuc (suc n)) = rw (lt-ltb 1 (suc (suc n)) (omega arith)) (ap negsuc (omega arith))

pub one-more-fits : (r : ℤ) → SFits w32 r → lt_z r (pos 2147483647) ≡ true → SFits w32 (suc_ℤ r)
one-more-fits (pos n) f t = let h : n < 2147483647 = ltb-true n 2147483647 t in record { sfits = omega arith }
one-more-fits (negsuc zero) f t = record { sfits = omega arith }
one-more-fits (negsuc (suc n)) f t = let h : suc n < 2 ^ 31 = f.sfits in record { sfits = omega arith }

-- a counter of an i32 stays one
pub one_more-fits : (r : ℤ) → SFits w32 r → SFits w32 (one_more r)
unfolding one_more
one_more-fits r f = by-test (lt_z r (pos 2147483647)) (λ t. rw t (one-more-fits r f t)) (λ t. rw t f)

-- it is std's `saturating_add(1)`
pub saturated : (r : ℤ) → SFits w32 r → saturate_signed w32 (r +ℤ pos 1) ≡ one_more r
unfolding one_more
saturated (pos n) f = by-test (ltb n 2147483647)
    (λ t. let h : n < 2147483647 = ltb-true n 2147483647 t in rw t (ap pos (omega arith)))
    (λ t. let h : 2147483647 ≤ n = ltb-false n 2147483647 t in let k : n < 2 ^ 31 = f.sfits in rw t (ap pos (omega arith)))
saturated (negsuc zero) f = refl
saturated (negsuc (suc n)) f = let h : suc n < 2 ^ 31 = f.sfits in rw (plus_one (negsuc (suc n))) (ap negsuc (omega arith))
