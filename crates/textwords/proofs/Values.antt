-- The number of digits, one by one. Assumes nothing.
use Rattle.std.proofs.Common.{Option, Some, None, true, false, sym, ap, ◌∙◌, take}
use mathlib.Core.Bool.{and-eq-true_iff, false≢true}
use lib.Dec.{eqb}
use Rattle.std.specs.Cmp.Lexicographic.{pointwise}
use Rattle.words.proofs.Tests.{by-test}
use Prim.Native.Nat.{ℕ, ◌+◌, ◌-◌, ◌*◌, ◌≤◌, ◌<◌, ◌^◌}
use native.Mathlib.Numerals.{add-one}
use native.Mathlib.Omega.{arith}
use mathlib.Core.Path.{◌≡◌, refl}
use mathlib.Core.List.{List, [], ◌∷◌}
use borrow.Author.Tests.{lt-ltb, le-ltb, le-leb, lt-leb, eq-eqb, ne_eqb}
use lib.ListN.{length, get_or, drop, drop_of_length-le}
use lib.Seq.{drop-cons}
use Rattle.textwords.specs.Numbers.{digits_after, unsigned_of, negated, number_of}

module _ (n : ℕ) (l : List ℕ) (i : ℕ) (h : i < length l) where
  pub too-low : get_or l i 0 < 48 → digits_after n (drop i l) ≡ None
  unfolding digits_after
  too-low k = rw (drop-cons l i 0 h, lt-leb 48 (get_or l i 0) k)

  pub too-high : 57 < get_or l i 0 → digits_after n (drop i l) ≡ None
  unfolding digits_after
  too-high k = let m : 48 ≤ get_or l i 0 = omega arith in rw (drop-cons l i 0 h, le-leb 48 (get_or l i 0) m, lt-leb (get_or l i 0) 57 k)

  pub too_large : 48 ≤ get_or l i 0 → get_or l i 0 ≤ 57 → 2 ^ 64 ≤ n * 10 + (get_or l i 0 - 48) → digits_after n (drop i l) ≡ None
  unfolding digits_after
  too_large a b k = rw (drop-cons l i 0 h, le-leb 48 (get_or l i 0) a, le-leb (get_or l i 0) 57 b, le-ltb (n * 10 + (get_or l i 0 - 48)) (2 ^ 64) k)

  pub one-digit : 48 ≤ get_or l i 0 → get_or l i 0 ≤ 57 → n * 10 + (get_or l i 0 - 48) < 2 ^ 64
      → digits_after n (drop i l) ≡ digits_after (n * 10 + (get_or l i 0 - 48)) (drop (i + 1) l)
  unfolding digits_after
  one-digit a b k = rw (add-one i, drop-cons l i 0 h, le-leb 48 (get_or l i 0) a, le-leb (get_or l i 0) 57 b, lt-ltb (n * 10 + (get_or l i 0 - 48)) (2 ^ 64) k)

pub no_digit : (n : ℕ) (l : List ℕ) (i : ℕ) → length l ≤ i → digits_after n (drop i l) ≡ Some n
unfolding digits_after
no_digit n l i h = rw (drop_of_length-le l h)

-- ---- a word of text

pub no_text : (s : List ℕ) → length s ≡ 0 → None ≡ unsigned_of s
unfolding unsigned_of
no_text [] h = refl
no_text (b ∷ bs) h = absurd (omega arith)

-- what the digits from a place on come to
pub comes_to : (s : List ℕ) {x r : Option ℕ} → 0 < length s → x ≡ digits_after 0 s → x ≡ r → r ≡ unsigned_of s
unfolding unsigned_of
comes_to [] h e f = absurd (omega arith)
comes_to (b ∷ bs) h e f = sym f ∙ e

pub number-negative : (s rest : List ℕ) → pointwise eqb (take 1 s) (45 ∷ []) ≡ true → rest ≡ drop 1 s → number_of s ≡ negated (unsigned_of rest)
unfolding number_of
number-negative [] rest t e = absurd (false≢true t)
number-negative (b ∷ bs) rest t e = rw ((and-eq-true_iff (eqb b 45) true).0 t).0 (ap (λ (l : List ℕ). negated (unsigned_of l)) (sym e))

pub number-unsigned : (s : List ℕ) → pointwise eqb (take 1 s) (45 ∷ []) ≡ false → number_of s ≡ unsigned_of s
unfolding number_of unsigned_of
number-unsigned [] t = refl
number-unsigned (b ∷ bs) t = by-test (eqb b 45) (λ u. absurd (false≢true (sym t ∙ rw u))) (λ u. rw u)

-- by the first byte
pub number-plain : (s : List ℕ) → 0 < length s → (get_or s 0 0 ≡ 45 → ⊥) → number_of s ≡ digits_after 0 (drop 0 s)
unfolding number_of unsigned_of
number-plain [] h n = absurd (omega arith)
number-plain (b ∷ bs) h n = rw (ne_eqb b 45 n)

pub number-minus : (s : List ℕ) → 1 < length s → get_or s 0 0 ≡ 45 → number_of s ≡ negated (digits_after 0 (drop 1 s))
unfolding number_of unsigned_of
number-minus [] h e = absurd (omega arith)
number-minus (b ∷ []) h e = absurd (omega arith)
number-minus (b ∷ d ∷ ds) h e = rw (eq-eqb b 45 e)
