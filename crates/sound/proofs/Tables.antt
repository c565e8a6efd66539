-- The tests of the tables put together as the code makes them. Assumes nothing.
use mathlib.Core.Path.{◌≡◌, refl, sym, ap, ap₂, ◌∙◌}
use mathlib.Core.Bool.{Bool, true, false, not, ◌&&◌, ◌||◌, and-true, and-false, true≢false}
use mathlib.Core.List.{List, ◌++◌}
use Prim.Native.Nat.{ℕ, ◌+◌, ◌≤◌}
use native.Mathlib.Nat.{zero-add}
use native.Mathlib.Omega.{arith}
use borrow.Author.Tests.{eqb-true, leb-true, ltb-false, le-leb}
use lib.Dec.{leb, ltb, eqb}
use lib.ListN.{length, take, drop}
use Rattle.words.proofs.Tests.{by-test}
use Rattle.definition.specs.Base.{all, every, distinct}
use Rattle.definition.specs.Types.{Kind, topic}
use Rattle.definition.specs.Calls.{bound, state_short}
use Rattle.definition.specs.Words.{at, kind_by}
use Rattle.definition.specs.Layout.{Row, Buffers, subs_at, sub_rows, used_subs, used_rows, rings_formed, lengths_of}
use Rattle.definition.proofs.Tests.{and_left, and_right, and_both}
use Rattle.definition.proofs.Thin.{every-all, all-every}
use Rattle.heads.specs.Heads.{head_ok, head_sound}
use Rattle.subrows.specs.Subrows.{row_tests, rows_sound}
use Rattle.subrows.proofs.Looked.{look-all}
use Rattle.sound.specs.Sound.{apart_by, sizes_at, empty_by, queue_seqs, queue_apart, numbers_ok, table_tests, tables_ok, shares_at, rest_ok}

-- ---- sequence numbers

-- two parts, one after the other
pub gathered-two : (o p q a b : List ℕ) (m end : ℕ) → take (0 + m) p ≡ take 0 o ++ a → take end q ≡ take m p ++ b → take end q ≡ a ++ b
gathered-two o p q a b m end e f = f ∙ ap (λ (l : List ℕ). l ++ b) (ap (λ (k : ℕ). take k p) (sym (zero-add m)) ∙ e)

module _ (others reserved waiting : ℕ) (subs rows : List Row) where
  pub subs-stop : (q : Bool) → all (apart_by (kind_by q)) (subs_at (kind_by q) subs rows) ≡ false
      → false ≡ (queue_apart (kind_by q) others reserved waiting subs rows && all (apart_by (kind_by q)) (subs_at (kind_by q) subs rows))
  subs-stop q f = sym (ap (λ (t : Bool). queue_apart (kind_by q) others reserved waiting subs rows && t) f ∙ and-false (queue_apart (kind_by q) others reserved waiting subs rows))

  pub queue-last : (q : Bool) → q ≡ true → all (apart_by (kind_by q)) (subs_at (kind_by q) subs rows) ≡ true
      → distinct (queue_seqs others reserved waiting subs rows) ≡ (queue_apart (kind_by q) others reserved waiting subs rows && all (apart_by (kind_by q)) (subs_at (kind_by q) subs rows))
  queue-last true e f = sym (ap (λ (t : Bool). distinct (queue_seqs others reserved waiting subs rows) && t) f ∙ and-true (distinct (queue_seqs others reserved waiting subs rows)))
  queue-last false e f = absurd (true≢false (sym e))

  pub topic-last : (q : Bool) → q ≡ false → all (apart_by (kind_by q)) (subs_at (kind_by q) subs rows) ≡ true
      → true ≡ (queue_apart (kind_by q) others reserved waiting subs rows && all (apart_by (kind_by q)) (subs_at (kind_by q) subs rows))
  topic-last true e f = absurd (true≢false e)
  topic-last false e f = sym f

  -- what is known of a topic
  pub topic-apart : (q : Bool) → q ≡ false → (queue_apart (kind_by q) others reserved waiting subs rows && all (apart_by (kind_by q)) (subs_at (kind_by q) subs rows)) ≡ true
      → all (apart_by topic) (subs_at topic subs rows) ≡ true
  topic-apart true e f = absurd (true≢false e)
  topic-apart false e f = f

pub topic-empty : (q : Bool) (n : ℕ) → q ≡ false → empty_by (kind_by q) n ≡ true → n ≡ 0
topic-empty true n e f = absurd (true≢false e)
topic-empty false n e f = eqb-true n 0 f

-- ---- all tests of the tables

stop : (a b z : Bool) → (a && b) ≡ false → false ≡ (a && (b && z))
stop true true z r = absurd (true≢false r)
stop true false z r = refl
stop false b z r = refl

last : (a b z : Bool) → (a && b) ≡ true → z ≡ (a && (b && z))
last true true z r = refl
last true false z r = absurd (true≢false (sym r))
last false b z r = absurd (true≢false (sym r))

place-by : (q : Bool) (n : ℕ) → (q || eqb n 0) ≡ empty_by (kind_by q) n
place-by true n = refl
place-by false n = refl

-- the numbers and the sizes
module _ (q : Bool) (others reserved waiting : ℕ) (subs rows : List Row) where
  abbrev pub apart_all : Bool
  apart_all = queue_apart (kind_by q) others reserved waiting subs rows && all (apart_by (kind_by q)) (subs_at (kind_by q) subs rows)

  module _ (seqs : Bool) (j : seqs ≡ apart_all) where
    numbers-tests : (sizes : Bool) → sizes ≡ sizes_at (others + reserved + waiting) rows
        → ((q || eqb (reserved + waiting) 0) && (seqs && sizes)) ≡ numbers_ok (kind_by q) others reserved waiting subs rows
    unfolding numbers_ok
    numbers-tests sizes z = ap₂ ◌&&◌ (place-by q (reserved + waiting)) (ap₂ ◌&&◌ j z)

    pub numbers-stop : ((q || eqb (reserved + waiting) 0) && seqs) ≡ false → false ≡ numbers_ok (kind_by q) others reserved waiting subs rows
    numbers-stop c = stop (q || eqb (reserved + waiting) 0) seqs (sizes_at (others + reserved + waiting) rows) c ∙ numbers-tests (sizes_at (others + reserved + waiting) rows) refl

    pub numbers-last : ((q || eqb (reserved + waiting) 0) && seqs) ≡ true → (sizes : Bool) → sizes ≡ sizes_at (others + reserved + waiting) rows
        → sizes ≡ numbers_ok (kind_by q) others reserved waiting subs rows
    numbers-last c sizes z = last (q || eqb (reserved + waiting) 0) seqs sizes c ∙ numbers-tests sizes z

    -- what the sizes are asked of
    pub numbers-known : ((q || eqb (reserved + waiting) 0) && seqs) ≡ true → (empty_by (kind_by q) (reserved + waiting) ≡ true) × (apart_all ≡ true)
    numbers-known c =
        let place : Bool = q || eqb (reserved + waiting) 0 in
        (sym (place-by q (reserved + waiting)) ∙ and_left place seqs c, sym j ∙ and_right place seqs c)

-- with the tests of consumers and rows one by one, these are all
module _ (k : Kind) (most others reserved waiting : ℕ) (subs rows : List Row) where
  pub table-one-by-one : tables_ok k most others reserved waiting subs rows ≡ true → every (row_tests k most others reserved waiting subs rows) ≡ true
  unfolding tables_ok
  table-one-by-one e =
      let p = every-all (table_tests k most others reserved waiting subs rows) e in
      all-every (row_tests k most others reserved waiting subs rows) (p.1.0, (p.1.1.0, (p.1.1.1.0, (p.1.1.1.1.0, tt))))

  pub table-numbers : every (row_tests k most others reserved waiting subs rows) ≡ true → numbers_ok k others reserved waiting subs rows ≡ tables_ok k most others reserved waiting subs rows
  unfolding tables_ok numbers_ok
  table-numbers e =
      let p = every-all (row_tests k most others reserved waiting subs rows) e in
      joined (empty_by k (reserved + waiting)) _ _ _ _ (queue_apart k others reserved waiting subs rows && all (apart_by k) (subs_at k subs rows)) (sizes_at (others + reserved + waiting) rows) p.0 p.1.0 p.1.1.0 p.1.1.1.0
    where
      joined : (a b c d e f g : Bool) → b ≡ true → c ≡ true → d ≡ true → e ≡ true → (a && (f && g)) ≡ (a && (b && (c && (d && (e && (f && (g && true)))))))
      joined a b c d e f g h i j l =
          sym (ap₂ (λ (x y : Bool). a && (x && (y && (d && (e && (f && (g && true))))))) h i ∙ ap₂ (λ (x y : Bool). a && (x && (y && (f && (g && true))))) j l ∙ ap (λ (x : Bool). a && (f && x)) (and-true g))

-- ---- the rest

module _ (b : Buffers) where
  abbrev pub rings : Bool
  rings = rings_formed (at 14 b.head) (drop 113 b.head)

  abbrev pub kind_in : Kind
  kind_in = kind_by (eqb (at 0 b.head) 0)

  abbrev tables : Bool
  tables = tables_ok kind_in (bound (at 3 b.head)) (sub_rows (used_subs b)) (at 15 b.head) (at 16 b.head) (used_subs b) b.rows

  abbrev pub tests : List Bool
  tests = row_tests kind_in (bound (at 3 b.head)) (sub_rows (used_subs b)) (at 15 b.head) (at 16 b.head) (used_subs b) b.rows

  abbrev pub numbers : Bool
  numbers = numbers_ok kind_in (sub_rows (used_subs b)) (at 15 b.head) (at 16 b.head) (used_subs b) b.rows

  abbrev shares : Bool
  shares = shares_at (at 8346 b.head) (eqb (at 0 b.head) 0) (sub_rows (used_subs b)) (at 15 b.head + at 16 b.head) (used_subs b) b.rows

  abbrev pub looked : Bool
  looked = rows_sound kind_in (bound (at 3 b.head)) (at 12 b.head) (at 15 b.head) (at 16 b.head) b.subs b.rows

  -- where consumers and rows are not sound one by one, nothing is
  pub rest-unfit : at 12 b.head ≤ length b.subs → 512 ≤ length b.rows → looked ≡ false → false ≡ rest_ok b
  unfolding rest_ok
  rest-unfit n m e = by-test (rest_ok b)
      (λ t.
      let u = leb-true (used_rows b) 512 (and_left (leb (used_rows b) 512) (rings && (tables && shares)) t) in
      let r = and_left tables shares (and_right rings (tables && shares) (and_right (leb (used_rows b) 512) (rings && (tables && shares)) t)) in
      let w = table-one-by-one kind_in (bound (at 3 b.head)) (sub_rows (used_subs b)) (at 15 b.head) (at 16 b.head) (used_subs b) b.rows r in
      absurd (true≢false (sym w ∙ look-all (eqb (at 0 b.head) 0) (bound (at 3 b.head)) (at 12 b.head) (at 15 b.head) (at 16 b.head) b.subs b.rows n u (omega arith) ∙ e)))
      (λ t. sym t)

  pub rest-fit : looked ≡ true → (used_rows b ≤ 512) × (every tests ≡ true)
  unfolding rows_sound
  rest-fit e =
      let p = and_right (leb (at 12 b.head) (length b.subs)) (leb (used_rows b) 512 && (leb (used_rows b) (length b.rows) && every tests)) e in
      (leb-true (used_rows b) 512 (and_left (leb (used_rows b) 512) _ p), and_right (leb (used_rows b) (length b.rows)) (every tests) (and_right (leb (used_rows b) 512) _ p))

  -- where they are, with the rings
  module _ (u : used_rows b ≤ 512) (r : rings ≡ true) (e : every tests ≡ true) where
    rest-tests : (numbers && shares) ≡ rest_ok b
    unfolding rest_ok
    rest-tests = sym (ap₂ (λ (s t : Bool). s && (t && (tables && shares))) (le-leb (used_rows b) 512 u) r
        ∙ ap (λ (t : Bool). t && shares) (sym (table-numbers kind_in (bound (at 3 b.head)) (sub_rows (used_subs b)) (at 15 b.head) (at 16 b.head) (used_subs b) b.rows e)))

    pub rest-stop : numbers ≡ false → false ≡ rest_ok b
    rest-stop f = sym (ap (λ (t : Bool). t && shares) f) ∙ rest-tests

    pub rest-last : numbers ≡ true → shares ≡ rest_ok b
    rest-last f = sym (ap (λ (t : Bool). t && shares) f) ∙ rest-tests

-- the whole head is asked, and the rest
pub head-false : (b : Buffers) → 8347 ≤ length b.head → head_sound b.head ≡ false → (head_ok b.head && rest_ok b) ≡ false
unfolding head_sound rest_ok
head-false b n e = by-test (head_ok b.head && rest_ok b)
    (λ t.
    let r = and_left (rings b) _ (and_right (leb (used_rows b) 512) _ (and_right (head_ok b.head) (rest_ok b) t)) in
    absurd (true≢false (sym (and_both (leb 8347 (length b.head)) (head_ok b.head && rings b) (le-leb 8347 (length b.head) n) (and_both (head_ok b.head) (rings b) (and_left (head_ok b.head) (rest_ok b) t) r)) ∙ e)))
    (λ t. t)

pub head-true : (h : List ℕ) → head_sound h ≡ true → (head_ok h ≡ true) × (rings_formed (at 14 h) (drop 113 h) ≡ true)
unfolding head_sound
head-true h e =
    let p = and_right (leb 8347 (length h)) (head_ok h && rings_formed (at 14 h) (drop 113 h)) e in
    (and_left (head_ok h) (rings_formed (at 14 h) (drop 113 h)) p, and_right (head_ok h) (rings_formed (at 14 h) (drop 113 h)) p)

pub long-enough : (b : Buffers) → not (state_short (lengths_of b 0)) ≡ true → (8347 ≤ length b.head) × (32 ≤ length b.subs) × (512 ≤ length b.rows)
unfolding state_short
long-enough b e =
    let p = parts (ltb (length b.head) 8347) (ltb (length b.subs) 32) (ltb (length b.rows) 512) e in
    (ltb-false (length b.head) 8347 p.0, ltb-false (length b.subs) 32 p.1, ltb-false (length b.rows) 512 p.2)
  where
    parts : (x y z : Bool) → not (x || (y || z)) ≡ true → (x ≡ false) × (y ≡ false) × (z ≡ false)
    parts true y z e = absurd (true≢false (sym e))
    parts false true z e = absurd (true≢false (sym e))
    parts false false true e = absurd (true≢false (sym e))
    parts false false false e = (refl, refl, refl)
