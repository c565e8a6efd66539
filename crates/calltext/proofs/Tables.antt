-- A table's values, and a name's place. Assumes nothing.
use Rattle.std.proofs.Common.{ℕ, suc, ◌+◌, ◌<◌, ◌≤◌, ◌≡◌, refl, true, false, List, [], ◌∷◌, length, map, Option, MatchOption, unwrap_or, Bor}
use native.Mathlib.Nat.{add-zero, zero-add, add-suc, suc-add}
use native.Mathlib.Numerals.{add-one}
use native.Mathlib.Omega.{arith}
use mathlib.Core.Path.{ap, sym, ◌∙◌}
use Prim.Native.Nat.{zero}
use borrow.Author.Tests.{leb-true}
use lib.Dec.{leb}
use lib.ListN.{get_or, replicate, get_or-replicate}
use Rattle.std.specs.List.{AllWithin, HoldsAt}
use Rattle.std.proofs.lemmas.Iterator.{index_from_first}
use Rattle.words.proofs.Tests.{by-test}
use Rattle.textwords.specs.Text.{same_text}
use Rattle.calltext.specs.Names.{names, name_at, place_in}

-- ---- a table is a function's values

module _ {ℓ} {A : Type ℓ} (f : ℕ → A) where
  unfoldable pub values : ℕ → ℕ → List A
  values i zero = []
  values i (suc n) = f i ∷ values (suc i) n

  pub value-from : (d : A) (n i k : ℕ) → k < n → get_or (values i n) k d ≡ f (i + k)
  unfolding values
  value-from d zero i k h = absurd (omega arith)
  value-from d (suc n) i zero h = ap f (sym (add-zero i))
  value-from d (suc n) i (suc k) h = value-from d n (suc i) k (omega arith) ∙ ap f (suc-add i k ∙ sym (add-suc i k))

  pub value : (d : A) (n k : ℕ) (l : List A) → l ≡ values 0 n → k < n → get_or l k d ≡ f k
  value d n k l e h = ap (λ (l : List A). get_or l k d) e ∙ value-from d n 0 k h ∙ ap f (zero-add k)

-- ---- names

pub short : (k : ℕ) → k < 18 → length (name_at k) ≤ 15
unfolding names values
short k h = leb-true (length (name_at k)) 15 (sym (value (λ (j : ℕ). leb (length (name_at j)) 15) false 18 k (replicate 18 true) refl h) ∙ get_or-replicate 18 k true false h)

-- ---- a name's place

later : (ns : List (List ℕ)) (k : ℕ) (w : List ℕ) → place_in ns (suc k) w ≡ place_in ns k w + 1
unfolding place_in
later [] k w = sym (add-one k)
later (n ∷ ns) k w = by-test (same_text w n) (λ t. rw t (sym (add-one k))) (λ t. rw (t, later ns (suc k) w))

-- a search by names that are lent
pub first-place : (w : List ℕ) (ns : List (Bor (List ℕ))) (r : Option ℕ) → MatchOption r (AllWithin (λ (n : Bor (List ℕ)). same_text w n.now ≡ false) ns 0 (length ns)) (λ (i : ℕ). (i < length ns) × HoldsAt (λ (n : Bor (List ℕ)). same_text w n.now ≡ true) ns i × AllWithin (λ (n : Bor (List ℕ)). same_text w n.now ≡ false) ns 0 i) → place_in (map (λ (n : Bor (List ℕ)). n.now) ns) 0 w ≡ unwrap_or r (length ns)
unfolding place_in
first-place w ns r h = index_from_first (λ (ns : List (Bor (List ℕ))). place_in (map (λ (n : Bor (List ℕ)). n.now) ns) 0 w) (λ (n : Bor (List ℕ)). same_text w n.now ≡ true) (λ (n : Bor (List ℕ)). same_text w n.now ≡ false) refl (λ x xs t. rw t) (λ x xs t. rw (t, later (map (λ (n : Bor (List ℕ)). n.now) xs) 0 w)) ns r h
