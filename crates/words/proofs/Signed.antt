-- Steps of the code that goes between words and signed numbers: -1 less a number, and a sign that was tested.
-- Assumes nothing.
use mathlib.Core.Path.{◌≡◌, refl, sym, ap, ◌∙◌}
use mathlib.Core.Bool.{Bool, true, false}
use Prim.Native.Nat.{ℕ, zero, suc, ◌-◌, ◌<◌, ◌^◌}
use native.Mathlib.Nat.{zero-add}
use native.Mathlib.Omega.{arith}
use borrow.Author.Tests.{leb-false}
use lib.IntN.{ℤ, pos, negsuc, ◌-ℤ◌}
use lib.Signed.{le_z}
use mir.Syntax.{w64}
use mir.Val.{SFits, to_z, of_z}
use mir.ValLaws.{to_z-of_z}

-- -1 - k
pub flip : (k : ℕ) → negsuc 0 -ℤ pos k ≡ negsuc k
flip zero = refl
flip (suc k) = ap (λ (n : ℕ). negsuc (suc n)) (zero-add k)

negative : (x : ℤ) → le_z (pos 0) x ≡ false → (n : ℕ) × (x ≡ negsuc n)
negative (pos n) t = absurd (let h : n < 0 = leb-false 0 n t in omega arith)
negative (negsuc n) t = (n, refl)

positive : (x : ℤ) → le_z (pos 0) x ≡ true → (n : ℕ) × (x ≡ pos n)
positive (pos n) t = (n, refl)
positive (negsuc n) t = let z : ◌≡◌ {A = Bool} true false = sym t in absurd (let y : ◌≡◌ {A = ℕ} 0 1 = cc in omega arith)

-- a number whose sign the code has tested, with the code's reading of it through its bits
pub as-negative : (x : ℤ) → SFits w64 x → le_z (pos 0) (to_z w64 (of_z w64 x)) ≡ false
    → (n : ℕ) × (to_z w64 (of_z w64 x) ≡ negsuc n) × (of_z w64 x ≡ 2 ^ 64 - suc n) × n < 2 ^ 63
as-negative x f t =
    let p = negative x (rw (to_z-of_z w64 x f) at t) in
    (p.0, to_z-of_z w64 x f ∙ p.1, ap (of_z w64) p.1, rw p.1 at f.sfits)

pub as-nonnegative : (x : ℤ) → SFits w64 x → le_z (pos 0) (to_z w64 (of_z w64 x)) ≡ true
    → (n : ℕ) × (to_z w64 (of_z w64 x) ≡ pos n) × (of_z w64 x ≡ n) × n < 2 ^ 63
as-nonnegative x f t =
    let p = positive x (rw (to_z-of_z w64 x f) at t) in
    (p.0, to_z-of_z w64 x f ∙ p.1, ap (of_z w64) p.1, rw p.1 at f.sfits)
