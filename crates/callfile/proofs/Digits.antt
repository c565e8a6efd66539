-- A number's decimal digits: one by one, and how many. Assumes nothing.
use Prim.Native.Nat.{ℕ, zero, suc, ◌+◌, ◌-◌, ◌*◌, ◌≤◌, ◌<◌, ◌/◌, ◌%◌, ◌^◌}
use native.Mathlib.Nat.{pow-suc}
use native.Mathlib.Omega.{arith}
use mathlib.Core.Path.{◌≡◌, refl, ap, ◌∙◌}
use mathlib.Core.List.{List, [], ◌∷◌, ◌++◌}
use borrow.Author.Tests.{lt-ltb, le-ltb}
use lib.Dec.{ltb}
use lib.ListN.{length, length-append}
use lib.IntN.{ℤ, pos, negsuc}
use Rattle.words.specs.Words.{signed}
use Rattle.words.proofs.Tests.{by-test}
use Rattle.callfile.specs.Lines.{digits, decimal, signed_decimal, signed_field, newline, bad_line}

-- one tenth of it has one digit less
tenth : (k n : ℕ) → n < 10 ^ suc (suc k) → n / 10 < 10 ^ suc k
tenth k n h = let p : 10 ^ suc (suc k) ≡ 10 ^ suc k * 10 = pow-suc 10 (suc k) in omega arith

-- any limit that is high enough
same_digits : (k l n : ℕ) → n < 10 ^ suc k → n < 10 ^ suc l → digits k n ≡ digits l n
unfolding digits
same_digits zero zero n h g = refl
same_digits zero (suc l) n h g = rw (lt-ltb n 10 (omega arith))
same_digits (suc k) zero n h g = rw (lt-ltb n 10 (omega arith))
same_digits (suc k) (suc l) n h g = by-test (ltb n 10)
    (λ t. rw t)
    (λ t. rw t (ap (λ (d : List ℕ). d ++ ((48 + n % 10) ∷ [])) (same_digits k l (n / 10) (tenth k n h) (tenth l n g))))

pub decimal-one : (n : ℕ) → n < 10 → decimal n ≡ (48 + n) ∷ []
unfolding decimal digits
decimal-one n h = rw (lt-ltb n 10 h)

module _ (n : ℕ) (low : 10 ≤ n) (high : n < 2 ^ 64) where
  pub decimal-more : decimal n ≡ decimal (n / 10) ++ ((48 + n % 10) ∷ [])
  unfolding decimal digits
  decimal-more = rw (le-ltb n 10 low) (ap (λ (d : List ℕ). d ++ ((48 + n % 10) ∷ [])) (same_digits 18 19 (n / 10) (omega arith) (omega arith)))

  pub more-length : length (decimal n) ≡ length (decimal (n / 10)) + 1
  more-length = ap length decimal-more ∙ length-append (decimal (n / 10)) ((48 + n % 10) ∷ [])

-- how many there are
digits-length : (k n : ℕ) → length (digits k n) ≤ suc k
unfolding digits
digits-length zero n = omega arith
digits-length (suc k) n = by-test (ltb n 10)
    (λ t. rw t (omega arith))
    (λ t. rw t (omega (arith, length-append (digits k (n / 10)) ((48 + n % 10) ∷ []), digits-length k (n / 10))))

-- a number below a power of ten
decimal-length : (k n : ℕ) → n < 10 ^ suc k → n < 10 ^ 20 → length (decimal n) ≤ suc k
unfolding decimal
decimal-length k n h g = rw (same_digits 19 k n g h) (digits-length k n)

-- a word has at most 20
pub word-length : (n : ℕ) → length (decimal n) ≤ 20
unfolding decimal
word-length n = digits-length 19 n

pub bad-length : (n : ℕ) → length (bad_line n) ≤ 128
unfolding bad_line
bad-length n = omega (arith, length-append (decimal n) newline, word-length n)

pub signed-length : (z : ℤ) → length (signed_field z) ≤ 22
signed-length (pos n) = omega (arith, word-length n)
signed-length (negsuc n) = omega (arith, word-length (suc n))

-- ---- the signed number of a word

pub signed_lower : (w : ℕ) → w < 2 ^ 63 → signed_decimal (signed w) ≡ decimal w
signed_lower w h = rw (lt-ltb w (2 ^ 63) h)

pub signed-upper : (w : ℕ) → 2 ^ 63 ≤ w → w < 2 ^ 64 → signed_decimal (signed w) ≡ 45 ∷ decimal (2 ^ 64 - 1 - w + 1)
signed-upper w h k =
    let e : suc (2 ^ 64 - suc w) ≡ 2 ^ 64 - 1 - w + 1 = omega arith in
    rw (le-ltb w (2 ^ 63) h) (ap (λ (n : ℕ). 45 ∷ decimal n) e)

-- which has at most 19
pub upper-length : (w : ℕ) → 2 ^ 63 ≤ w → w < 2 ^ 64 → length (decimal (2 ^ 64 - 1 - w + 1)) ≤ 19
upper-length w h k = decimal-length 18 (2 ^ 64 - 1 - w + 1) (omega arith) (omega arith)
