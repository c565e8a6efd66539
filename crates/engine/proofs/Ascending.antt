-- Rows in order, by the last of them: where a number goes, and that none has a number above. Assumes nothing.
use mathlib.Core.Path.{◌≡◌, refl, sym, ap, ◌∙◌}
use mathlib.Core.Bool.{true, false}
use mathlib.Core.List.{List, [], ◌∷◌, ◌++◌, map}
use Prim.Native.Nat.{ℕ, suc, ◌+◌, ◌-◌, ◌≤◌, ◌<◌}
use native.Mathlib.Omega.{arith}
use borrow.Author.Tests.{ltb-true, le-leb, lt-leb, ne_eqb}
use lib.Dec.{leb, ltb}
use lib.ListN.{length, get_or}
use lib.Seq.{slice, length-slice}
use Rattle.words.proofs.Tests.{by-test}
use Rattle.definition.specs.Base.{rising}
use Rattle.definition.specs.Layout.{Row}
use Rattle.definition.proofs.Tests.{and_left, and_right, and_both}
use Rattle.definition.proofs.Thin.{ascending-tail}
use Rattle.table.specs.Table.{holds_seq, place_from}
use Rattle.table.proofs.Lists.{slice_snoc}
use Rattle.engine.specs.Storing.{holds}
use Rattle.engine.specs.Arrivals.{rows_in_order}
use Rattle.engine.proofs.Used.{holds-numbers}

-- ---- the last of a list

abbrev num : Row → ℕ
num r = get_or r 0 0

abbrev nums : List Row → List ℕ
nums l = map (λ r. get_or r 0 0) l

module _ (r : Row) where
  below_last : (j : ℕ) (l : List Row) → rising j (nums (l ++ r ∷ [])) ≡ true → j < num r
  below_last j [] h = ltb-true j (num r) (and_left (ltb j (num r)) true h)
  below_last j (x ∷ l) h = omega (arith, ltb-true j (num x) (and_left (ltb j (num x)) _ h), below_last (num x) l (and_right (ltb j (num x)) _ h))

  rising-front : (j : ℕ) (l : List Row) → rising j (nums (l ++ r ∷ [])) ≡ true → rising j (nums l) ≡ true
  rising-front j [] h = refl
  rising-front j (x ∷ l) h = and_both (ltb j (num x)) _ (and_left (ltb j (num x)) _ h) (rising-front (num x) l (and_right (ltb j (num x)) _ h))

  order-front : (l : List Row) → rows_in_order (l ++ r ∷ []) ≡ true → rows_in_order l ≡ true
  order-front [] h = refl
  order-front (x ∷ l) h = rising-front (num x) l h

  -- the last is not below the number
  place-before : (i q : ℕ) (l : List Row) → q ≤ num r → place_from i q (l ++ r ∷ []) ≡ place_from i q l
  unfolding place_from
  place-before i q [] h = rw (le-leb q (num r) h)
  place-before i q (x ∷ l) h = by-test (leb q (num x)) (λ t. rw t) (λ t. rw t (place-before (suc i) q l h))

  -- it is below, and so are the others
  module _ (q : ℕ) (less : num r < q) where
    place_after : (i : ℕ) (l : List Row) → rows_in_order (l ++ r ∷ []) ≡ true → place_from i q (l ++ r ∷ []) ≡ i + length l + 1
    unfolding place_from
    place_after i [] h = rw (lt-leb q (num r) less) (omega arith)
    place_after i (x ∷ l) h = rw (lt-leb q (num x) (omega (arith, below_last (num x) l h))) (place_after (suc i) l (ascending-tail (num x) (nums (l ++ r ∷ [])) h) ∙ omega arith)

    absent-above : (l : List Row) → rows_in_order (l ++ r ∷ []) ≡ true → holds_seq q (l ++ r ∷ []) ≡ false
    absent-above [] h = rw (ne_eqb q (num r) (λ e. omega (arith, e)))
    absent-above (x ∷ l) h =
        let b = below_last (num x) l h in
        rw (ne_eqb q (num x) (λ e. omega (arith, e))) (absent-above l (ascending-tail (num x) (nums (l ++ r ∷ [])) h))

-- ---- the last of a part of the table

module _ (rows : List Row) (from i q : ℕ) (some : from < i) (within : i ≤ length rows) where
  abbrev last : Row
  last = get_or rows (i - 1) []

  ends : slice from i rows ≡ slice from (i - 1) rows ++ last ∷ []
  ends =
      let e : i ≡ i - 1 + 1 = omega arith in
      ap (λ (n : ℕ). slice from n rows) e ∙ slice_snoc from (i - 1) rows [] (omega arith) (omega arith)

  pub place_down : q ≤ get_or last 0 0 → place_from from q (slice from i rows) ≡ place_from from q (slice from (i - 1) rows)
  place_down h = ap (place_from from q) ends ∙ place-before last from q (slice from (i - 1) rows) h

  module _ (o : rows_in_order (slice from i rows) ≡ true) where
    ordered : rows_in_order (slice from (i - 1) rows ++ last ∷ []) ≡ true
    ordered = ap (λ (l : List Row). rows_in_order l) (sym ends) ∙ o

    pub order-down : rows_in_order (slice from (i - 1) rows) ≡ true
    order-down = order-front last (slice from (i - 1) rows) ordered

    pub place_here : get_or last 0 0 < q → place_from from q (slice from i rows) ≡ i
    place_here h = ap (place_from from q) ends ∙ place_after last q h from (slice from (i - 1) rows) ordered ∙ omega (arith, length-slice from (i - 1) rows (omega arith))

    pub none_above : get_or last 0 0 < q → holds q (slice from i rows) ≡ false
    none_above h = holds-numbers q (slice from i rows) ∙ ap (holds_seq q) ends ∙ absent-above last q h (slice from (i - 1) rows) ordered
