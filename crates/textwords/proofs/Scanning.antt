-- A scan, byte by byte, and a comparison. Assumes nothing.
use Rattle.std.proofs.Common.{ℕ, suc, ◌<◌, ◌≤◌, drop, ◌≡◌, refl, ap, ◌∙◌, Bool, true, false, ◌&&◌, List, [], ◌∷◌, length, Option, MatchOption, unwrap_or}
use native.Mathlib.Numerals.{add-one}
use Rattle.std.specs.List.{AllWithin, HoldsAt}
use Rattle.std.specs.Cmp.Lexicographic.{pointwise}
use Rattle.std.proofs.lemmas.Iterator.{index_from_first}
use mathlib.Core.Bool.{and-eq-true_iff, false≢true}
use lib.ListN.{drop_of_length-le}
use lib.Dec.{eqb}
use Rattle.words.proofs.Tests.{eqb_comm, by-test}
use Rattle.textwords.specs.declared.Stop.{Stop}
use Rattle.textwords.specs.Text.{stops, run, same_text}

pub run_end : (s : Stop) (l : List ℕ) (i : ℕ) → length l ≤ i → run s (drop i l) ≡ 0
unfolding run
run_end s l i h = rw (drop_of_length-le l h)

-- where the first byte is that stops a scan
pub run-position : (s : Stop) (l : List ℕ) (r : Option ℕ) → MatchOption r (AllWithin (λ (b : ℕ). stops s b ≡ false) l 0 (length l)) (λ (i : ℕ). (i < length l) × HoldsAt (λ (b : ℕ). stops s b ≡ true) l i × AllWithin (λ (b : ℕ). stops s b ≡ false) l 0 i) → run s l ≡ unwrap_or r (length l)
unfolding run
run-position s l r h = index_from_first (run s) (λ (b : ℕ). stops s b ≡ true) (λ (b : ℕ). stops s b ≡ false) refl (λ x xs t. rw t) (λ x xs t. rw (t, add-one (run s xs))) l r h

-- ---- two texts

pub same-lengths : (a b : List ℕ) → same_text a b ≡ true → length a ≡ length b
unfolding same_text
same-lengths [] [] t = refl
same-lengths [] (y ∷ ys) t = absurd (false≢true t)
same-lengths (x ∷ xs) [] t = absurd (false≢true t)
same-lengths (x ∷ xs) (y ∷ ys) t = ap suc (same-lengths xs ys ((and-eq-true_iff (eqb x y) (same_text xs ys)).0 t).1)

pub other-lengths : (a b : List ℕ) → (length a ≡ length b → ⊥) → same_text a b ≡ false
other-lengths a b h = by-test (same_text a b) (λ t. absurd (h (same-lengths a b t))) (λ t. t)

-- the answer of `==`
pub same-equal : (a b : List ℕ) → pointwise eqb a b ≡ same_text a b
unfolding same_text
same-equal [] [] = refl
same-equal [] (y ∷ ys) = refl
same-equal (x ∷ xs) [] = refl
same-equal (x ∷ xs) (y ∷ ys) = ap (λ (r : Bool). eqb x y && r) (same-equal xs ys)

-- and of `starts_with`, which compares the other way around
pub same-turned : (a b : List ℕ) → pointwise eqb a b ≡ same_text b a
unfolding same_text
same-turned [] [] = refl
same-turned [] (y ∷ ys) = refl
same-turned (x ∷ xs) [] = refl
same-turned (x ∷ xs) (y ∷ ys) = ap (λ (r : Bool). eqb x y && r) (same-turned xs ys) ∙ ap (λ (t : Bool). t && same_text ys xs) (eqb_comm x y)
