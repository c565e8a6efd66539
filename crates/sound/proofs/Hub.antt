-- Rows that are copies of the rows of one consumer, whose numbers are different: their sizes agree. Assumes nothing.
use mathlib.Core.Path.{◌≡◌, refl, sym, ap, ◌∙◌}
use mathlib.Core.Bool.{Bool, true, false, not, ◌&&◌, ◌||◌, true≢false}
use mathlib.Core.List.{List, [], ◌∷◌, map}
use Prim.Native.Nat.{ℕ, zero, suc, ◌+◌, ◌-◌, ◌≤◌, ◌<◌}
use native.Mathlib.Omega.{arith}
use borrow.Author.Tests.{eqb-true, eqb-false, eq-eqb}
use lib.Dec.{eqb}
use lib.ListN.{length, take, drop, get_or, length-take, length-drop}
use lib.Seq.{take-add, get_or-drop, get_or-take}
use Rattle.words.proofs.Tests.{by-test}
use Rattle.entry.specs.Entry.{entry_of}
use Rattle.definition.specs.Base.{all, member, distinct}
use Rattle.definition.specs.Types.{topic}
use Rattle.definition.specs.Words.{at}
use Rattle.definition.specs.Layout.{Row, sub_at, subs_at, sub_rows}
use Rattle.definition.proofs.Tests.{and_left, and_right, and_both}
use Rattle.definition.proofs.Stored.{seqs-rows}
use Rattle.definition.proofs.Lists.{all-joined}
use Rattle.copies.specs.Copies.{alike, agree_at}
use Rattle.copies.proofs.Laws.{agree-means, alike_at, member-at}
use Rattle.subrows.specs.Subrows.{seqs_at}
use Rattle.subrows.proofs.Subs.{rows-item, item_turn}
use Rattle.sound.proofs.Gathered.{apart-here}
use Rattle.sound.specs.Sound.{apart_by, HubAt, SameRows, sizes_at}
use Rattle.sound.proofs.Sizes.{distinct-agree}

-- ---- copies

-- the hub has the row's number, and only with the row's size
abbrev pub copy : List Row → Row → Bool
copy hub w = member (at 0 w) (seqs_at hub) && all (alike (at 0 w) (at 9 w)) hub

one_size : (x y z : ℕ) (hub : List Row) → member x (seqs_at hub) ≡ true → all (alike x y) hub ≡ true → all (alike x z) hub ≡ true → y ≡ z
one_size x y z [] m f g = absurd (true≢false (sym m))
one_size x y z (w ∷ hub) m f g = by-test (eqb x (at 0 w))
    (λ t. eqb-true y (at 9 w) (here y t f) ∙ sym (eqb-true z (at 9 w) (here z t g)))
    (λ t. one_size x y z hub (sym (ap (λ (b : Bool). b || member x (seqs_at hub)) t) ∙ m) (and_right (alike x y w) (all (alike x y) hub) f) (and_right (alike x z w) (all (alike x z) hub) g))
  where
    here : (s : ℕ) → eqb x (at 0 w) ≡ true → all (alike x s) (w ∷ hub) ≡ true → eqb s (at 9 w) ≡ true
    here s t e = sym (ap (λ (b : Bool). not b || eqb s (at 9 w)) t) ∙ and_left (alike x s w) (all (alike x s) hub) e

module _ (hub : List Row) where
  copies-alike : (w v : Row) → copy hub w ≡ true → copy hub v ≡ true → alike (at 0 w) (at 9 w) v ≡ true
  copies-alike w v e f = by-test (eqb (at 0 w) (at 0 v))
      (λ t.
      let q : at 0 v ≡ at 0 w = sym (eqb-true (at 0 w) (at 0 v) t) in
      ap (λ (b : Bool). not b || eqb (at 9 w) (at 9 v)) t
      ∙ eq-eqb (at 9 w) (at 9 v) (one_size (at 0 w) (at 9 w) (at 9 v) hub (and_left (member (at 0 w) (seqs_at hub)) (all (alike (at 0 w) (at 9 w)) hub) e)
      (and_right (member (at 0 w) (seqs_at hub)) (all (alike (at 0 w) (at 9 w)) hub) e)
      (sym (ap (λ (x : ℕ). all (alike x (at 9 v)) hub) q) ∙ and_right (member (at 0 v) (seqs_at hub)) (all (alike (at 0 v) (at 9 v)) hub) f)))
      (λ t. ap (λ (b : Bool). not b || eqb (at 9 w) (at 9 v)) t)

  others-alike : (w : Row) (l : List Row) → copy hub w ≡ true → all (copy hub) l ≡ true → all (alike (at 0 w) (at 9 w)) l ≡ true
  others-alike w [] e f = refl
  others-alike w (v ∷ l) e f =
      and_both (alike (at 0 w) (at 9 w) v) (all (alike (at 0 w) (at 9 w)) l) (copies-alike w v e (and_left (copy hub v) (all (copy hub) l) f)) (others-alike w l e (and_right (copy hub v) (all (copy hub) l) f))

  copies-agree : (l : List Row) → all (copy hub) l ≡ true → agree_at l ≡ true
  copies-agree [] e = refl
  copies-agree (w ∷ l) e =
      let r = and_right (copy hub w) (all (copy hub) l) e in
      and_both (all (alike (at 0 w) (at 9 w)) l) (agree_at l) (others-alike w l (and_left (copy hub w) (all (copy hub) l) e) r) (copies-agree l r)

  pub copies-sizes : (n : ℕ) (rows : List Row) → all (copy hub) (take n rows) ≡ true → sizes_at n rows ≡ true
  copies-sizes n rows e = sym (agree-means (take n rows)) ∙ copies-agree (take n rows) e

  -- a row with the number and the size of the hub's row at k
  copy_at : (w : Row) (k : ℕ) → distinct (seqs_at hub) ≡ true → k < length hub → at 0 w ≡ at 0 (get_or hub k []) → at 9 w ≡ at 9 (get_or hub k []) → copy hub w ≡ true
  copy_at w k d h p q =
      let a : agree_at hub ≡ true = agree-means hub ∙ distinct-agree (map entry_of hub) (ap distinct (sym (seqs-rows hub)) ∙ d) in
      and_both (member (at 0 w) (seqs_at hub)) (all (alike (at 0 w) (at 9 w)) hub) (member-at (at 0 w) hub k h (sym p))
      (alike_at (at 0 w) (at 9 w) hub k a h (sym p) ∙ eq-eqb (at 9 w) (at 9 (get_or hub k [])) q)

-- ---- rows by their places

pub no_difference : (p q : Bool) → (not p || not q) ≡ false → (p ≡ true) × (q ≡ true)
no_difference true true e = (refl, refl)
no_difference true false e = absurd (true≢false e)
no_difference false q e = absurd (true≢false e)

pub same_place : (rows : List Row) (a b k : ℕ) → a ≡ b → SameRows a b k rows
same_place rows a b k e i h = (ap (λ (j : ℕ). at 0 (get_or rows (j + i) [])) e, ap (λ (j : ℕ). at 9 (get_or rows (j + i) [])) e)

pub same_more : (rows : List Row) (a b i : ℕ) → SameRows a b i rows → at 0 (get_or rows (a + i) []) ≡ at 0 (get_or rows (b + i) [])
    → at 9 (get_or rows (a + i) []) ≡ at 9 (get_or rows (b + i) []) → SameRows a b (i + 1) rows
same_more rows a b i s p q j h = by-test (eqb j i)
    (λ t.
    let e : i ≡ j = sym (eqb-true j i t) in (
      sym (ap (λ (k : ℕ). at 0 (get_or rows (a + k) [])) e) ∙ p ∙ ap (λ (k : ℕ). at 0 (get_or rows (b + k) [])) e,
      sym (ap (λ (k : ℕ). at 9 (get_or rows (a + k) [])) e) ∙ q ∙ ap (λ (k : ℕ). at 9 (get_or rows (b + k) [])) e,
    ))
    (λ t. s j (omega (arith, eqb-false j i t)))

all-below : (p : Row → Bool) (l : List Row) (k : ℕ) → k ≤ length l → ((i : ℕ) → i < k → p (get_or l i []) ≡ true) → all p (take k l) ≡ true
all-below p l zero h f = refl
all-below p [] (suc k) h f = refl
all-below p (w ∷ l) (suc k) h f = and_both (p w) (all p (take k l)) (f 0 (omega arith)) (all-below p l k (omega arith) (λ i t. f (suc i) (omega arith)))

-- the rows that others are compared with
abbrev pub hub : ℕ → ℕ → List Row → List Row
hub end many rows = take many (drop (end - many) rows)

-- one consumer's rows more
pub more-copies : (rows : List Row) (base k end many : ℕ) → distinct (seqs_at (hub end many rows)) ≡ true → many ≤ end → end ≤ length rows → base + k ≤ length rows
    → (k ≤ many) × SameRows base (end - k) k rows → all (copy (hub end many rows)) (take base rows) ≡ true → all (copy (hub end many rows)) (take (base + k) rows) ≡ true
more-copies rows base k end many d b l m s e =
    let h : List Row = hub end many rows in
    ap (all (copy h)) (take-add base k rows)
    ∙ all-joined (copy h) (take base rows) (take k (drop base rows))
    ∙ and_both (all (copy h) (take base rows)) (all (copy h) (take k (drop base rows))) e
    (all-below (copy h) (drop base rows) k (simp length-drop (omega arith)) (λ i t.
    let j : ℕ = many - k + i in
    let n : end - many + j ≡ end - k + i = omega arith in
    let g : get_or h j [] ≡ get_or rows (end - k + i) [] = get_or-take many (drop (end - many) rows) j [] (omega arith) ∙ get_or-drop (end - many) rows j [] ∙ ap (λ (x : ℕ). get_or rows x []) n in
    let f : get_or (drop base rows) i [] ≡ get_or rows (base + i) [] = get_or-drop base rows i [] in
    copy_at h (get_or (drop base rows) i []) j d (simp (length-take, length-drop) (omega arith)) (ap (at 0) f ∙ (s.1 i t).0 ∙ sym (ap (at 0) g)) (ap (at 9) f ∙ (s.1 i t).1 ∙ sym (ap (at 9) g))))

-- ---- one consumer's rows among all

-- where each consumer's rows are different, so are those of each that is left
abbrev pub ApartFrom : List Row → ℕ → ℕ → Type 0
ApartFrom us base i = (rows : List Row) → all (apart_by topic) (subs_at topic us rows) ≡ true → all (apart_by topic) (subs_at topic (drop i us) (drop base rows)) ≡ true

pub no-hub : (ws : List Row) → HubAt ws 0 0
no-hub ws = record { room = omega arith; within = omega arith; apart = λ rows a. refl }

module _ (us : List Row) (i base : ℕ) (h : i < length us) (g : ApartFrom us base i) where
  abbrev pub own : ℕ
  own = at 14 (get_or us i []) + at 15 (get_or us i [])

  abbrev own_apart : List Row → Bool
  own_apart rows = let w = get_or us i [] in apart_by topic (sub_at topic w (take (at 14 w) (drop base rows)) (take (at 15 w) (drop (at 14 w) (drop base rows))))

  abbrev next_apart : List Row → Bool
  next_apart rows = all (apart_by topic) (subs_at topic (drop (i + 1) us) (drop (base + own) rows))

  apart-turn : (rows : List Row) → all (apart_by topic) (subs_at topic us rows) ≡ true → (own_apart rows && next_apart rows) ≡ true
  apart-turn rows a = item_turn us i (apart_by topic) (sub_at topic) rows base true (g rows a) h

  pub apart_next : ApartFrom us (base + own) (i + 1)
  apart_next rows a = and_right (own_apart rows) (next_apart rows) (apart-turn rows a)

  pub hub-here : base + sub_rows (drop i us) ≡ sub_rows us → HubAt us (base + own) own
  hub-here e =
      let q : base + own - own ≡ base = omega arith in
      record {
        room = omega arith;
        within = omega (arith, rows-item us i h);
        apart = λ rows a. ap (λ (j : ℕ). distinct (seqs_at (take own (drop j rows)))) q ∙ apart-here (get_or us i []) rows base false ∙ and_left (own_apart rows) (next_apart rows) (apart-turn rows a);
      }
