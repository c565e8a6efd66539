-- The place that the table finds for a number is where the definition stores an entry: before the first that is not below it, or over one
-- with the same number. Assumes nothing.
use mathlib.Core.Path.{◌≡◌, refl, sym, ap, ◌∙◌}
use mathlib.Core.Bool.{Bool, true, false}
use mathlib.Core.List.{List, [], ◌∷◌, ◌++◌, map}
use Prim.Native.Nat.{ℕ, zero, suc, ◌+◌, ◌≤◌, ◌<◌}
use native.Mathlib.Omega.{arith}
use borrow.Author.Tests.{eqb-true, eqb-false, leb-true, leb-false, lt-ltb, le-ltb, eq-eqb, ne_eqb}
use lib.Dec.{leb, eqb}
use lib.ListN.{length, take, drop, get_or, set}
use Rattle.definition.specs.Layout.{Row}
use Rattle.words.proofs.Tests.{by-test}
use Rattle.entry.specs.Entry.{entry_of}
use Rattle.definition.specs.Base.{whether◌then◌else◌}
use Rattle.definition.specs.Types.{Entry}
use Rattle.definition.specs.Destination.{insert}
use Rattle.table.specs.Table.{place_from}
use Rattle.table.proofs.Search.{place-from-within}

module _ (e f : Entry) (fs : List Entry) where
  pub insert-less : e.seq < f.seq → insert e (f ∷ fs) ≡ e ∷ f ∷ fs
  insert-less h = rw (lt-ltb e.seq f.seq h)

  insert-over : e.seq ≡ f.seq → insert e (f ∷ fs) ≡ e ∷ fs
  insert-over h = rw (le-ltb e.seq f.seq (omega arith), eq-eqb e.seq f.seq h)

  pub insert-later : f.seq < e.seq → insert e (f ∷ fs) ≡ f ∷ insert e fs
  insert-later h = rw (le-ltb e.seq f.seq (omega arith), ne_eqb e.seq f.seq (λ q. omega arith))

module _ (row : Row) (e : Entry) (is : entry_of row ≡ e) where
  -- the number is new
  pub insert-new : (i k : ℕ) (l : List Row) → place_from i e.seq l ≡ i + k → (k < length l → get_or (get_or l k []) 0 0 ≡ e.seq → ⊥)
      → map entry_of (take k l ++ row ∷ drop k l) ≡ insert e (map entry_of l)
  unfolding place_from entry_of
  insert-new i zero [] p n = ap (λ (x : Entry). x ∷ []) is
  insert-new i (suc k) [] p n = absurd (omega arith)
  insert-new i k (r ∷ l) p n = go (leb e.seq (get_or r 0 0)) (leb-true e.seq (get_or r 0 0)) (leb-false e.seq (get_or r 0 0)) (λ (m : ℕ). insert-new (suc i) m l) k p n
    where
      go : (b : Bool) → (b ≡ true → e.seq ≤ get_or r 0 0) → (b ≡ false → get_or r 0 0 < e.seq)
          → ((m : ℕ) → place_from (suc i) e.seq l ≡ suc i + m → (m < length l → get_or (get_or l m []) 0 0 ≡ e.seq → ⊥) → map entry_of (take m l ++ row ∷ drop m l) ≡ insert e (map entry_of l))
          → (m : ℕ) → (whether b then i else place_from (suc i) e.seq l) ≡ i + m
          → (m < suc (length l) → get_or (get_or (r ∷ l) m []) 0 0 ≡ e.seq → ⊥) → map entry_of (take m (r ∷ l) ++ row ∷ drop m (r ∷ l)) ≡ insert e (map entry_of (r ∷ l))
      go true f g ih zero q u =
          let less : e.seq < get_or r 0 0 = by-test (eqb (get_or r 0 0) e.seq) (λ t. absurd (u (omega arith) (eqb-true (get_or r 0 0) e.seq t))) (λ t. omega (arith, f refl, eqb-false (get_or r 0 0) e.seq t)) in
          ap (λ (x : Entry). x ∷ entry_of r ∷ map entry_of l) is ∙ sym (insert-less e (entry_of r) (map entry_of l) less)
      go true f g ih (suc m) q u = absurd (omega arith)
      go false f g ih zero q u = let w = place-from-within (suc i) e.seq l in absurd (omega arith)
      go false f g ih (suc m) q u =
          ap (λ (x : List Entry). entry_of r ∷ x) (ih m (omega arith) (λ h t. u (omega arith) t)) ∙ sym (insert-later e (entry_of r) (map entry_of l) (g refl))

  -- one waits with it
  pub insert-same : (i k : ℕ) (l : List Row) → place_from i e.seq l ≡ i + k → k < length l → get_or (get_or l k []) 0 0 ≡ e.seq
      → map entry_of (set l k row) ≡ insert e (map entry_of l)
  unfolding place_from entry_of
  insert-same i k [] p h n = absurd (omega arith)
  insert-same i k (r ∷ l) p h n = go (leb e.seq (get_or r 0 0)) (leb-true e.seq (get_or r 0 0)) (leb-false e.seq (get_or r 0 0)) (λ (m : ℕ). insert-same (suc i) m l) k p h n
    where
      go : (b : Bool) → (b ≡ true → e.seq ≤ get_or r 0 0) → (b ≡ false → get_or r 0 0 < e.seq)
          → ((m : ℕ) → place_from (suc i) e.seq l ≡ suc i + m → m < length l → get_or (get_or l m []) 0 0 ≡ e.seq → map entry_of (set l m row) ≡ insert e (map entry_of l))
          → (m : ℕ) → (whether b then i else place_from (suc i) e.seq l) ≡ i + m
          → m < suc (length l) → get_or (get_or (r ∷ l) m []) 0 0 ≡ e.seq → map entry_of (set (r ∷ l) m row) ≡ insert e (map entry_of (r ∷ l))
      go b f g ih zero q h u = ap (λ (x : Entry). x ∷ map entry_of l) is ∙ sym (insert-over e (entry_of r) (map entry_of l) (sym u))
      go true f g ih (suc m) q h u = absurd (omega arith)
      go false f g ih (suc m) q h u =
          ap (λ (x : List Entry). entry_of r ∷ x) (ih m (omega arith) (omega arith) u) ∙ sym (insert-later e (entry_of r) (map entry_of l) (g refl))
