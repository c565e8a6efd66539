-- Laws of how a line is read: digits and words one byte at a time, and words as parts of the line. Assumes nothing.
use mathlib.Core.Path.{◌≡◌, refl, sym, ◌∙◌}
use mathlib.Core.Bool.{Bool, true, false}
use mathlib.Core.List.{List, [], ◌∷◌}
use Prim.Native.Nat.{ℕ, zero, suc, ◌+◌, ◌-◌, ◌≤◌, ◌<◌, ◌^◌}
use native.Mathlib.Nat.{zero-add}
use native.Mathlib.Numerals.{add-one}
use native.Mathlib.Omega.{arith}
use borrow.Author.Tests.{ltb-true, ltb-false, lt-ltb, le-ltb, eqb-true, eq-eqb, ne_eqb}
use lib.Dec.{ltb, leb, eqb}
use lib.IntN.{pos, negsuc, neg_ℤ, ◌-ℤ◌}
use lib.ListN.{length, take, drop, get_or, set, drop_of_length-le}
use lib.Seq.{drop-cons}
use mir.Syntax.{w64}
use mir.Val.{SFits, to_z}
use mir.ValLaws.{to_z_pos}
use Rattle.words.specs.Pick.{whether◌then◌else◌}
use Rattle.words.specs.Words.{unsigned}
use Rattle.words.proofs.Signed.{flip}
use Rattle.words.proofs.Tests.{by-test}
use Rattle.std.specs.Prelude.{Some, None, option_and_then}
use Rattle.leafcases.specs.Parse.{next_digit, spelled_after, digits_of, positive, negative, spelled, word_length, same_bytes, split, words_after, values_of}

-- ---- numbers

-- what follows a minus
pub minus : (v : ℕ) → (v ≡ 0 → ⊥) → v ≤ 2 ^ 63 → (negsuc 0 -ℤ to_z w64 (v - 1) ≡ neg_ℤ (pos v)) × SFits w64 (neg_ℤ (pos v))
minus zero h i = absurd (h refl)
minus (suc n) h i =
    let e : suc n - 1 ≡ n = omega arith in
    (rw (e, to_z_pos w64 n (omega arith)) (flip n), record { sfits = omega arith })

-- the digits from i on are that at i and those after it
pub digits_step : (s : List ℕ) (v i : ℕ) → i < length s
    → spelled_after v (drop i s) ≡ option_and_then (λ w. spelled_after w (drop (i + 1) s)) (next_digit v (get_or s i 0))
unfolding spelled_after
digits_step s v i h = rw (drop-cons s i 0 h, add-one)

pub digits-done : (s : List ℕ) (v i : ℕ) → length s ≤ i → spelled_after v (drop i s) ≡ Some v
unfolding spelled_after
digits-done s v i h = rw (drop_of_length-le s h)

pub some-digits : (s : List ℕ) → 0 < length s → digits_of s ≡ spelled_after 0 s
unfolding digits_of
some-digits [] h = absurd (omega arith)
some-digits (b ∷ bs) h = refl

pub no-digits : (s : List ℕ) → length s ≤ 0 → None ≡ digits_of s
unfolding digits_of
no-digits [] h = refl
no-digits (b ∷ bs) h = absurd (omega arith)

pub no_number : (s : List ℕ) → length s ≤ 0 → None ≡ spelled s
unfolding spelled
no_number [] h = refl
no_number (b ∷ bs) h = absurd (omega arith)

pub some_number : (s : List ℕ) → 0 < length s
    → spelled s ≡ (whether eqb (get_or s 0 0) 45 then option_and_then negative (digits_of (drop 1 s)) else option_and_then positive (digits_of s))
unfolding spelled
some_number [] h = absurd (omega arith)
some_number (b ∷ bs) h = refl

-- ---- words

-- at a space, at another byte, and at the end
pub at-space : (s : List ℕ) (i : ℕ) → i < length s → get_or s i 0 ≡ 32 → word_length (drop i s) ≡ 0
unfolding word_length
at-space s i h e = rw (drop-cons s i 0 h, eq-eqb (get_or s i 0) 32 e)

pub at_other : (s : List ℕ) (i : ℕ) → i < length s → (get_or s i 0 ≡ 32 → ⊥) → word_length (drop i s) ≡ suc (word_length (drop (i + 1) s))
unfolding word_length
at_other s i h e = rw (drop-cons s i 0 h, ne_eqb (get_or s i 0) 32 e, add-one)

pub at-end : (s : List ℕ) (i : ℕ) → length s ≤ i → word_length (drop i s) ≡ 0
unfolding word_length
at-end s i h = rw (drop_of_length-le s h)

pub word-within : (s : List ℕ) → word_length s ≤ length s
unfolding word_length
word-within [] = omega arith
word-within (b ∷ bs) = by-test (eqb b 32) (λ t. rw t (omega arith)) (λ t. let h = word-within bs in rw t (omega arith))

-- ---- bytes

same_refl : (a : List ℕ) → same_bytes a a ≡ true
unfolding same_bytes
same_refl [] = refl
same_refl (b ∷ bs) = rw (eq-eqb b b refl, same_refl bs)

differs : (a b : List ℕ) → (a ≡ b → ⊥) → same_bytes a b ≡ false
unfolding same_bytes
differs [] [] h = absurd (h refl)
differs [] (b ∷ bs) h = refl
differs (a ∷ l) [] h = refl
differs (a ∷ l) (b ∷ m) h = by-test (eqb a b) (λ t. rw (t, differs l m (λ e. h (cc (eqb-true a b t))))) (λ t. rw t)

-- a test that is true of equal bytes, and only of those
pub is_same : (r : Bool) (a b : List ℕ) → (r ≡ true → a ≡ b) → (a ≡ b → r ≡ true) → r ≡ same_bytes a b
is_same true a b f g = rw (f refl) (sym (same_refl b))
is_same false a b f g = sym (differs a b (λ e. let z : ◌≡◌ {A = Bool} false true = g e in absurd (let y : ◌≡◌ {A = ℕ} 0 1 = cc in omega arith)))

-- ---- a line

none_after : (n : ℕ) → words_after n [] ≡ []
unfolding words_after
none_after n = rw (le-ltb n 0 (omega arith))

one_later : (n b : ℕ) (bs : List ℕ) → words_after (suc n) (b ∷ bs) ≡ words_after n bs
unfolding words_after
one_later n b bs =
    let e : suc n + 1 ≡ suc (n + 1) = omega arith in
    by-test (ltb n (length bs))
    (λ t. let h = ltb-true n (length bs) t in rw (t, lt-ltb (suc n) (suc (length bs)) (omega arith), e))
    (λ t. let h = ltb-false n (length bs) t in rw (t, le-ltb (suc n) (suc (length bs)) (omega arith)))

at_zero : (b : ℕ) (bs : List ℕ) → words_after 0 (b ∷ bs) ≡ split bs
unfolding words_after
at_zero b bs = rw (lt-ltb 0 (suc (length bs)) (omega arith))

words-at : (s : List ℕ) (n : ℕ) → n < length s → words_after n s ≡ split (drop (n + 1) s)
unfolding words_after
words-at s n h = rw (lt-ltb n (length s) h)

-- the words after the space at k of what stands from n on
pub words-later : (n k : ℕ) (s : List ℕ) → words_after k (drop n s) ≡ words_after (n + k) s
words-later zero k s = rw (zero-add k)
words-later (suc n) k [] = none_after k ∙ sym (none_after (suc n + k))
words-later (suc n) k (b ∷ bs) =
    let e : suc n + k ≡ suc (n + k) = omega arith in
    rw e (words-later n k bs ∙ sym (one_later (n + k) b bs))

-- the first word, and the words after its end
pub split-word : (s : List ℕ) → split s ≡ take (word_length s) s ∷ words_after (word_length s) s
unfolding split word_length
split-word [] = rw (none_after 0)
split-word (b ∷ bs) =
    by-test (eqb b 32)
    (λ t. rw (t, at_zero b bs))
    (λ t. rw (t, split-word bs, one_later (word_length bs) b bs))

-- the same of the words after a space
pub after-space : (s : List ℕ) (n : ℕ) → n < length s
    → words_after n s ≡ take (word_length (drop (n + 1) s)) (drop (n + 1) s) ∷ words_after (n + 1 + word_length (drop (n + 1) s)) s
after-space s n h = words-at s n h ∙ split-word (drop (n + 1) s) ∙ rw (words-later (n + 1) (word_length (drop (n + 1) s)) s)

pub words-end : (s : List ℕ) (n : ℕ) → length s ≤ n → words_after n s ≡ []
unfolding words_after
words-end s n h = rw (le-ltb n (length s) h)

-- a turn of the loop over a line's numbers: n is where the word ends
pub values-step : (s : List ℕ) (at n count : ℕ) (values : List ℕ) → at < length s → n ≡ at + 1 + word_length (drop (at + 1) s)
    → values_of (words_after at s) values count
    ≡ option_and_then (λ x. whether leb 9 count then None else values_of (words_after n s) (set values count (unsigned x)) (count + 1)) (spelled (take (n - (at + 1)) (drop (at + 1) s)))
unfolding values_of
values-step s at n count values h e =
    let k : n - (at + 1) ≡ word_length (drop (at + 1) s) = omega arith in
    rw (k, e, after-space s at h)
