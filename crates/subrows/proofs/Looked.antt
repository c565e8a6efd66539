-- The tests of consumers and rows put together as the code makes them. Assumes nothing.
use mathlib.Core.Path.{◌≡◌, refl, sym, ap, ap₂, ◌∙◌}
use mathlib.Core.Bool.{Bool, true, false, ◌&&◌, and-true}
use mathlib.Core.List.{List}
use Prim.Native.Nat.{ℕ, ◌+◌, ◌≤◌, ◌<◌}
use native.Mathlib.Omega.{arith}
use borrow.Author.Tests.{leb-true, leb-false, le-leb, lt-leb}
use lib.Dec.{leb}
use lib.ListN.{length, take}
use lib.Seq.{slice}
use Rattle.words.proofs.Tests.{by-test}
use Rattle.definition.specs.Base.{all, every}
use Rattle.definition.specs.Words.{kind_by}
use Rattle.definition.specs.Layout.{Row, sub_rows}
use Rattle.subrows.specs.Subrows.{row_ok, holder_ok, sorted_ok, each_ok, ids_apart, rows_up_to, rows_counted, reserved_at, waiting_at, row_tests, rows_sound}
use Rattle.subrows.proofs.Tests.{part_of}
use Rattle.subrows.proofs.Subs.{rows_in_lem, rows-over}

with-holders : (t a b : Bool) → t ≡ a → (t ≡ true → b ≡ true) → t ≡ (a && b)
with-holders true a b e f = sym (ap₂ ◌&&◌ (sym e) (f refl))
with-holders false a b e f = ap (λ (x : Bool). x && b) e

-- ---- consumers and rows that the tables have

module _ (q : Bool) (most others reserved waiting : ℕ) (subs rows : List Row) (b : others + (reserved + waiting) ≤ length rows) where
  pub look_stop : each_ok (kind_by q) most subs rows ≡ false → false ≡ every (row_tests (kind_by q) most others reserved waiting subs rows)
  look_stop e = sym (ap (λ (t : Bool). t
      && (ids_apart subs
      && ((all row_ok (reserved_at others reserved rows) && all holder_ok (reserved_at others reserved rows)) && (sorted_ok 0 (waiting_at others reserved waiting rows) && true)))) e)

  pub look-last : (ids held sorted : Bool) → each_ok (kind_by q) most subs rows ≡ true
      → ids ≡ ids_apart subs
      → held ≡ all row_ok (slice others (others + reserved) rows)
      → (held ≡ true → all holder_ok (slice others (others + reserved) rows) ≡ true)
      → sorted ≡ sorted_ok 0 (slice (others + reserved) (others + reserved + waiting) rows)
      → (ids && (held && sorted)) ≡ every (row_tests (kind_by q) most others reserved waiting subs rows)
  look-last ids held sorted e f g h i =
      let r : slice others (others + reserved) rows ≡ reserved_at others reserved rows = part_of rows others reserved (omega arith) in
      let w : slice (others + reserved) (others + reserved + waiting) rows ≡ waiting_at others reserved waiting rows = part_of rows (others + reserved) waiting (omega arith) in
      let kept = with-holders held (all row_ok (reserved_at others reserved rows)) (all holder_ok (reserved_at others reserved rows)) (g ∙ ap (all row_ok) r) (λ t. sym (ap (all holder_ok) r) ∙ h t) in
      let last = i ∙ ap (sorted_ok 0) w ∙ sym (and-true (sorted_ok 0 (waiting_at others reserved waiting rows))) in
      ap₂ ◌&&◌ (sym e) (ap₂ ◌&&◌ f (ap₂ ◌&&◌ kept last))

-- ---- a count that stops at 513

pub count-over : (m k : ℕ) → 512 < rows_up_to m + k → 512 < m + k
count-over m k h = by-test (leb m 512)
    (λ t. let e : m ≡ rows_up_to m = rows_in_lem m (leb-true m 512 t) in omega arith)
    (λ t. omega (arith, leb-false m 512 t))

pub count_small : (m : ℕ) → rows_up_to m ≤ 513
count_small m = by-test (leb m 512)
    (λ t. let e : m ≡ rows_up_to m = rows_in_lem m (leb-true m 512 t) in omega (arith, leb-true m 512 t))
    (λ t. let e : 513 ≡ rows_up_to m = rows-over m (leb-false m 512 t) in omega arith)

pub count-exact : (m : ℕ) → rows_up_to m ≤ 512 → rows_up_to m ≡ m
count-exact m h = by-test (leb m 512)
    (λ t. sym (rows_in_lem m (leb-true m 512 t)))
    (λ t. let e : 513 ≡ rows_up_to m = rows-over m (leb-false m 512 t) in absurd (omega arith))

pub counted-all : (n : ℕ) (subs : List Row) → n ≤ length subs → rows_up_to (sub_rows (take n subs)) ≡ rows_counted n subs
counted-all n subs h = rw (le-leb n (length subs) h)

pub counted-exact : (n : ℕ) (subs : List Row) → n ≤ length subs → sub_rows (take n subs) ≤ 512 → rows_counted n subs ≡ sub_rows (take n subs)
counted-exact n subs h k = sym (counted-all n subs h) ∙ sym (rows_in_lem (sub_rows (take n subs)) k)

pub counted_none : (n : ℕ) (subs : List Row) → length subs < n → 513 ≡ rows_counted n subs
counted_none n subs h = rw (lt-leb n (length subs) h)

-- ---- whether the tables have them

module _ (q : Bool) (most n reserved waiting : ℕ) (subs rows : List Row) where
  abbrev tests : Bool
  tests = every (row_tests (kind_by q) most (sub_rows (take n subs)) reserved waiting (take n subs) rows)

  abbrev used : ℕ
  used = sub_rows (take n subs) + (reserved + waiting)

  pub look-short : length subs < n → false ≡ rows_sound (kind_by q) most n reserved waiting subs rows
  unfolding rows_sound
  look-short h = sym (ap (λ (t : Bool). t && (leb used 512 && (leb used (length rows) && tests))) (lt-leb n (length subs) h))

  pub look-over : n ≤ length subs → 512 < used → false ≡ rows_sound (kind_by q) most n reserved waiting subs rows
  unfolding rows_sound
  look-over h o = sym (ap₂ (λ (s t : Bool). s && (t && (leb used (length rows) && tests))) (le-leb n (length subs) h) (lt-leb used 512 o))

  pub look-past : n ≤ length subs → used ≤ 512 → length rows < used → false ≡ rows_sound (kind_by q) most n reserved waiting subs rows
  unfolding rows_sound
  look-past h o p = sym (ap₂ (λ (s t : Bool). s && (t && (leb used (length rows) && tests))) (le-leb n (length subs) h) (le-leb used 512 o)
      ∙ ap (λ (t : Bool). t && tests) (lt-leb used (length rows) p))

  pub look-all : n ≤ length subs → used ≤ 512 → used ≤ length rows → tests ≡ rows_sound (kind_by q) most n reserved waiting subs rows
  unfolding rows_sound
  look-all h o p = sym (ap₂ (λ (s t : Bool). s && (t && (leb used (length rows) && tests))) (le-leb n (length subs) h) (le-leb used 512 o)
      ∙ ap (λ (t : Bool). t && tests) (le-leb used (length rows) p))
