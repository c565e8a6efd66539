-- A row that is put in by its number: the place that the table finds is where the definition inserts. Assumes nothing.
use mathlib.Core.Path.{◌≡◌, refl, sym, ap, ◌∙◌}
use mathlib.Core.Bool.{Bool, true, false}
use mathlib.Core.List.{List, [], ◌∷◌, ◌++◌, map}
use Prim.Native.Nat.{ℕ, zero, suc, ◌+◌, ◌≤◌, ◌<◌}
use native.Mathlib.Omega.{arith}
use borrow.Author.Tests.{leb-true, leb-false, ltb-true, ltb-false, eqb-false}
use lib.Dec.{leb, ltb, eqb}
use lib.ListN.{length, take, drop, get_or}
use Rattle.definition.specs.Layout.{Row}
use Rattle.words.proofs.Tests.{by-test}
use Rattle.entry.specs.Entry.{entry_of}
use Rattle.definition.specs.Base.{whether◌then◌else◌, member}
use Rattle.definition.specs.Types.{Entry}
use Rattle.definition.specs.Destination.{insert}
use Rattle.definition.specs.Calls.{seqs}
use Rattle.definition.proofs.Tests.{or-no-left, or-no-right}
use Rattle.table.specs.Table.{place_from}
use Rattle.table.proofs.Search.{place-from-within}
use Rattle.returns.proofs.Insert.{insert-less, insert-later}

-- the number of a row's entry is its first word
pub entry-seq : (r : Row) → (entry_of r).seq ≡ get_or r 0 0
unfolding entry_of
entry-seq r = refl

-- k rows of l have a number below, and none has that number
pub insert-placed : (i k : ℕ) (l : List Row) (row : Row) (e : Entry) → entry_of row ≡ e → member e.seq (seqs (map entry_of l)) ≡ false → place_from i e.seq l ≡ i + k
    → map entry_of (take k l ++ row ∷ drop k l) ≡ insert e (map entry_of l)
unfolding place_from
insert-placed i zero [] row e q a p = ap (λ (x : Entry). x ∷ []) q
insert-placed i (suc k) [] row e q a p = absurd (omega arith)
insert-placed i k (r ∷ l) row e q a p =
    go (leb e.seq (get_or r 0 0)) (leb-true e.seq (get_or r 0 0)) (leb-false e.seq (get_or r 0 0)) (eqb-false e.seq (entry_of r).seq (or-no-left _ _ a)) (place-from-within (suc i) e.seq l)
    (λ (m : ℕ) h. insert-placed (suc i) m l row e q (or-no-right (eqb e.seq (entry_of r).seq) _ a) h) k p
  where
    go : (b : Bool) → (b ≡ true → e.seq ≤ get_or r 0 0) → (b ≡ false → get_or r 0 0 < e.seq) → (e.seq ≡ (entry_of r).seq → ⊥)
        → (suc i ≤ place_from (suc i) e.seq l) × (place_from (suc i) e.seq l ≤ suc i + length l)
        → ((m : ℕ) → place_from (suc i) e.seq l ≡ suc i + m → map entry_of (take m l ++ row ∷ drop m l) ≡ insert e (map entry_of l))
        → (m : ℕ) → (whether b then i else place_from (suc i) e.seq l) ≡ i + m → map entry_of (take m (r ∷ l) ++ row ∷ drop m (r ∷ l)) ≡ insert e (map entry_of (r ∷ l))
    go true le lt ne w ih zero h =
        let s : (entry_of r).seq ≡ get_or r 0 0 = entry-seq r in
        let n : e.seq ≤ get_or r 0 0 = le refl in
        let less : e.seq < (entry_of r).seq = strict e.seq (entry_of r).seq (omega arith) ne in
        ap (λ (x : Entry). x ∷ entry_of r ∷ map entry_of l) q ∙ sym (insert-less e (entry_of r) (map entry_of l) less)
      where
        strict : (x y : ℕ) → x ≤ y → (x ≡ y → ⊥) → x < y
        strict x y u v = by-test (ltb x y) (λ t. ltb-true x y t) (λ t. absurd (v (omega (arith, ltb-false x y t))))
    go true le lt ne w ih (suc m) h = absurd (omega arith)
    go false le lt ne w ih zero h = absurd (omega arith)
    go false le lt ne w ih (suc m) h =
        let s : (entry_of r).seq ≡ get_or r 0 0 = entry-seq r in
        let n : get_or r 0 0 < e.seq = lt refl in
        ap (λ (x : List Entry). entry_of r ∷ x) (ih m (omega arith)) ∙ sym (insert-later e (entry_of r) (map entry_of l) (omega arith))
