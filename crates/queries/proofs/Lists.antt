-- Laws of lists: whether one is empty, an element at a place, and a part of a front of one, mapped. Assumes nothing.
use mathlib.Core.Path.{◌≡◌, refl, sym, ap, ◌∙◌}
use mathlib.Core.List.{List, [], ◌∷◌}
use mathlib.Core.Option.{none, some}
use Prim.Native.Nat.{ℕ, zero, suc, ◌-◌, ◌≤◌, ◌<◌, min}
use native.Mathlib.Nat.{suc-sub-suc}
use native.Mathlib.Omega.{arith}
use lib.ListN.{length, take, drop, get_or}
use lib.Seq.{take-nil}
use Rattle.definition.specs.Base.{nth}

module _ {A : Type 0} where
  pub nth_past : (i : ℕ) (l : List A) → length l ≤ i → nth i l ≡ none
  nth_past i [] h = refl
  nth_past zero (x ∷ l) h = absurd (omega arith)
  nth_past (suc i) (x ∷ l) h = nth_past i l (omega arith)

  pub nth-at : (i : ℕ) (l : List A) (z : A) → i < length l → nth i l ≡ some (get_or l i z)
  nth-at i [] z h = absurd (omega arith)
  nth-at zero (x ∷ l) z h = refl
  nth-at (suc i) (x ∷ l) z h = nth-at i l z (omega arith)

  -- the first m of the first n
  take_min : (m n : ℕ) (l : List A) → take m (take n l) ≡ take (min m n) l
  take_min zero n l = let e : min 0 n ≡ 0 = omega arith in sym (ap (λ (k : ℕ). take k l) e)
  take_min (suc m) zero l = let e : min (suc m) 0 ≡ 0 = omega arith in sym (ap (λ (k : ℕ). take k l) e)
  take_min (suc m) (suc n) [] = sym (take-nil (min (suc m) (suc n)))
  take_min (suc m) (suc n) (x ∷ l) =
      let e : min (suc m) (suc n) ≡ suc (min m n) = omega arith in
      ap (λ (r : List A). x ∷ r) (take_min m n l) ∙ sym (ap (λ (k : ℕ). take k (x ∷ l)) e)

  -- at most m from place k on, of the first n
  pub take_part : (m n k : ℕ) (l : List A) → take m (drop k (take n l)) ≡ take (min m (n - k)) (drop k l)
  take_part m n zero l = take_min m n l ∙ ap (λ (j : ℕ). take (min m j) l) (omega arith)
  take_part m zero (suc k) l =
      let e : min m (zero - suc k) ≡ 0 = omega arith in
      take-nil m ∙ sym (ap (λ (j : ℕ). take j (drop (suc k) l)) e)
  take_part m (suc n) (suc k) [] = take-nil m ∙ sym (take-nil (min m (suc n - suc k)))
  take_part m (suc n) (suc k) (x ∷ l) = take_part m n k l ∙ ap (λ (j : ℕ). take (min m j) (drop k l)) (sym (suc-sub-suc n k))
