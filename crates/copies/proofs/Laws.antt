-- Rows that agree: one more row, by a copy that stands for all or by none; the table of places; and the turns of the loops. Assumes nothing.
use mathlib.Core.Path.{◌≡◌, refl, sym, ap, ap₂, ◌∙◌, subst}
use mathlib.Core.Bool.{Bool, true, false, not, ◌&&◌, ◌||◌, or-true, true≢false}
use mathlib.Core.List.{List, [], ◌∷◌, map}
use Prim.Native.Nat.{ℕ, zero, suc, ◌+◌, ◌-◌, ◌%◌, ◌≤◌, ◌<◌}
use native.Mathlib.Omega.{arith}
use borrow.Author.Tests.{eqb-true, eqb-false, eq-eqb, ne_eqb}
use lib.Dec.{eqb}
use lib.ListN.{length, take, drop, get_or, set, replicate, length-take, length-drop}
use lib.Seq.{slice, slice_empty, slice-cons, get_or-drop, get_or-take, get_or-set_same, get_or-set_other}
use Rattle.words.proofs.Tests.{by-test}
use Rattle.entry.specs.Entry.{entry_of}
use Rattle.definition.specs.Base.{all, member}
use Rattle.definition.specs.Calls.{sizes_agree}
use Rattle.definition.specs.Types.{Entry}
use Rattle.definition.specs.Words.{at}
use Rattle.definition.specs.Layout.{Row}
use Rattle.definition.proofs.Tests.{and_left, and_right, and_both}
use Rattle.definition.proofs.Lists.{all-at}
use Rattle.definition.proofs.Chains.{slice-range}
use Rattle.std.specs.List.{slice_range}
use Rattle.distinct.proofs.Laws.{eqb_comm}
use Rattle.copies.specs.Copies.{alike, agree_at, Slot}

-- ---- what the definitions say

abbrev like : Entry → Entry → Bool
like e f = not (eqb e.seq f.seq) || eqb e.size f.size

alike-means : (w : Row) (l : List Row) → all (alike (at 0 w) (at 9 w)) l ≡ all (like (entry_of w)) (map entry_of l)
unfolding entry_of
alike-means w [] = refl
alike-means w (v ∷ l) = ap (λ (b : Bool). alike (at 0 w) (at 9 w) v && b) (alike-means w l)

pub agree-means : (l : List Row) → agree_at l ≡ sizes_agree (map entry_of l)
agree-means [] = refl
agree-means (w ∷ l) = ap₂ ◌&&◌ (alike-means w l) (agree-means l)

-- ---- one more row

-- a number that no row has
pub alike-new : (x z : ℕ) (l : List Row) → member x (map (at 0) l) ≡ false → all (alike x z) l ≡ true
alike-new x z [] e = refl
alike-new x z (w ∷ l) e = by-test (eqb x (at 0 w))
    (λ t. absurd (true≢false (sym (ap (λ (b : Bool). b || member x (map (at 0) l)) t) ∙ e)))
    (λ t. ap (λ (b : Bool). (not b || eqb z (at 9 w)) && all (alike x z) l) t ∙ alike-new x z l (sym (ap (λ (b : Bool). b || member x (map (at 0) l)) t) ∙ e))

-- a number that the row at place k has, where the rows agree
pub alike_at : (x z : ℕ) (l : List Row) (k : ℕ) → agree_at l ≡ true → k < length l → at 0 (get_or l k []) ≡ x → all (alike x z) l ≡ eqb z (at 9 (get_or l k []))
alike_at x z [] k a h e = absurd (omega arith)
alike_at x z (w ∷ l) zero a h e =
    ap (λ (b : Bool). (not b || eqb z (at 9 w)) && all (alike x z) l) (eq-eqb x (at 0 w) (sym e))
    ∙ by-test (eqb z (at 9 w))
    (λ t.
    ap (λ (b : Bool). b && all (alike x z) l) t
    ∙ ap₂ (λ (y s : ℕ). all (alike y s) l) (sym e) (eqb-true z (at 9 w) t)
    ∙ and_left (all (alike (at 0 w) (at 9 w)) l) (agree_at l) a
    ∙ sym t)
    (λ t. ap (λ (b : Bool). b && all (alike x z) l) t ∙ sym t)
alike_at x z (w ∷ l) (suc k) a h e =
    let v : Row = get_or l k [] in
    ap (λ (b : Bool). alike x z w && b) (alike_at x z l k (and_right (all (alike (at 0 w) (at 9 w)) l) (agree_at l) a) (omega arith) e)
    ∙ by-test (eqb x (at 0 w))
    (λ t.
    let q : eqb (at 0 w) (at 0 v) ≡ true = eq-eqb (at 0 w) (at 0 v) (sym (eqb-true x (at 0 w) t) ∙ sym e) in
    let s : eqb (at 9 w) (at 9 v) ≡ true =
    sym (ap (λ (b : Bool). not b || eqb (at 9 w) (at 9 v)) q) ∙ all-at (alike (at 0 w) (at 9 w)) l k [] (and_left (all (alike (at 0 w) (at 9 w)) l) (agree_at l) a) (omega arith) in
    ap (λ (b : Bool). (not b || eqb z (at 9 w)) && eqb z (at 9 v)) t
    ∙ ap (λ (y : ℕ). eqb z y && eqb z (at 9 v)) (eqb-true (at 9 w) (at 9 v) s)
    ∙ twice (eqb z (at 9 v)))
    (λ t. ap (λ (b : Bool). (not b || eqb z (at 9 w)) && eqb z (at 9 v)) t)
  where
    twice : (b : Bool) → (b && b) ≡ b
    twice true = refl
    twice false = refl

pub member-at : (x : ℕ) (l : List Row) (k : ℕ) → k < length l → at 0 (get_or l k []) ≡ x → member x (map (at 0) l) ≡ true
member-at x [] k b q = absurd (omega arith)
member-at x (w ∷ l) zero b q = ap (λ (c : Bool). c || member x (map (at 0) l)) (eq-eqb x (at 0 w) (sym q))
member-at x (w ∷ l) (suc k) b q = ap (λ (c : Bool). eqb x (at 0 w) || c) (member-at x l k (omega arith) q) ∙ or-true (eqb x (at 0 w))

-- ---- by what the table holds

module _ (rows : List Row) (from to : ℕ) (b : to ≤ length rows) (x : ℕ) where
  pub slot-new : (z place : ℕ) → Slot x place from to rows → place ≡ 0 → true ≡ all (alike x z) (slice from to rows)
  slot-new z place s e = sym (alike-new x z (slice from to rows) (s.0 e))

  place_at : (place : ℕ) → from < place → place ≤ to → get_or (slice from to rows) (place - 1 - from) [] ≡ get_or rows (place - 1) []
  place_at place h k =
      let e : from + (place - 1 - from) ≡ place - 1 = omega arith in
      get_or-drop from (take to rows) (place - 1 - from) [] ∙ ap (λ (j : ℕ). get_or (take to rows) j []) e ∙ get_or-take to rows (place - 1) [] (omega arith)

  place_in : (place : ℕ) → from < place → place ≤ to → place - 1 - from < length (slice from to rows)
  place_in place h k = simp (length-drop, length-take) (omega arith)

  -- a copy there stands for all
  pub slot-copy : (z place : ℕ) → agree_at (slice from to rows) ≡ true → Slot x place from to rows → 0 < place → at 0 (get_or rows (place - 1) []) ≡ x
      → eqb (at 9 (get_or rows (place - 1) [])) z ≡ all (alike x z) (slice from to rows)
  slot-copy z place a s h e =
      let p = s.1 h in
      let g = place_at place p.0 p.1 in
      eqb_comm (at 9 (get_or rows (place - 1) [])) z
      ∙ sym (alike_at x z (slice from to rows) (place - 1 - from) a (place_in place p.0 p.1) (ap (at 0) g ∙ e) ∙ ap (λ (w : Row). eqb z (at 9 w)) g)

  -- the number of a row there is met
  pub slot-met : (place : ℕ) → Slot x place from to rows → 0 < place → at 0 (get_or rows (place - 1) []) ≡ x → true ≡ member x (map (at 0) (slice from to rows))
  slot-met place s h e =
      let p = s.1 h in
      sym (member-at x (slice from to rows) (place - 1 - from) (place_in place p.0 p.1) (ap (at 0) (place_at place p.0 p.1) ∙ e))

-- ---- the table

pub Slots : ℕ → List ℕ → ℕ → ℕ → List Row → Type 0
Slots m slots from to rows = (x : ℕ) → Slot x (get_or slots (x % m) 0) from to rows

pub slots_at : (m : ℕ) (slots : List ℕ) (from to : ℕ) (rows : List Row) → Slots m slots from to rows → (x : ℕ) → Slot x (get_or slots (x % m) 0) from to rows
unfolding Slots
slots_at m slots from to rows s x = s x

-- where nothing was met
pub slots-none : (m n : ℕ) (rows : List Row) → Slots m (replicate m 0) n n rows
unfolding Slots
slots-none m n rows x = (λ e. ap (λ (l : List Row). member x (map (at 0) l)) (slice_empty n rows), λ h. absurd (omega (arith, h, none m (x % m))))
  where
    none : (k j : ℕ) → ◌≡◌ {A = ℕ} (get_or (replicate k 0) j 0) 0
    none zero j = refl
    none (suc k) zero = refl
    none (suc k) (suc j) = none k j

module _ (rows : List Row) (i n : ℕ) (b : n ≤ length rows) (h : 0 < i) (k : i ≤ n) where
  abbrev pub last : Row
  last = get_or rows (i - 1) []

  pub row_more : slice (i - 1) n rows ≡ last ∷ slice i n rows
  row_more =
      let e : suc (i - 1) ≡ i = omega arith in
      slice-cons (i - 1) n rows [] (omega arith) b ∙ ap (λ (j : ℕ). last ∷ slice j n rows) e

  -- one more row is met
  pub slots-more : (m : ℕ) → ((x : ℕ) → x % m < m) → (slots : List ℕ) → length slots ≡ m → Slots m slots i n rows → Slots m (set slots (at 0 last % m) i) (i - 1) n rows
  unfolding Slots
  slots-more m below slots l s x = by-test (eqb (x % m) (at 0 last % m))
      (λ t.
      let v : get_or (set slots (at 0 last % m) i) (x % m) 0 ≡ i =
      ap (λ (j : ℕ). get_or (set slots (at 0 last % m) i) j 0) (eqb-true (x % m) (at 0 last % m) t) ∙ get_or-set_same slots (at 0 last % m) i 0 (rw l (below (at 0 last))) in
      (λ e. absurd (omega (arith, e, v)), λ p. (omega (arith, v), omega (arith, v))))
      (λ t.
      let v : get_or (set slots (at 0 last % m) i) (x % m) 0 ≡ get_or slots (x % m) 0 = get_or-set_other slots (at 0 last % m) (x % m) i 0 (λ q. absurd (omega (arith, eqb-false (x % m) (at 0 last % m) t, q))) in
      let o : eqb x (at 0 last) ≡ false = ne_eqb x (at 0 last) (λ q. absurd (omega (arith, eqb-false (x % m) (at 0 last % m) t, ap (λ (y : ℕ). y % m) q))) in (
        λ e. ap (λ (l : List Row). member x (map (at 0) l)) row_more ∙ ap (λ (c : Bool). c || member x (map (at 0) (slice i n rows))) o ∙ (s x).0 (sym v ∙ e),
        λ p. let r = (s x).1 (subst (λ (y : ℕ). 0 < y) v p) in (omega (arith, v, r.0), omega (arith, v, r.1)),
      ))

  pub after : i - 1 + 1 ≡ i
  after = omega (arith, h)

  -- the test of the rows after it, as the code takes them
  pub alike-after : all (alike (at 0 last) (at 9 last)) (slice i n rows) ≡ all (alike (at 0 last) (at 9 last)) (slice_range rows (i - 1 + 1) n)
  alike-after = ap (all (alike (at 0 last) (at 9 last))) (slice-range i n rows k ∙ ap (λ (j : ℕ). slice_range rows j n) (sym after))

  -- ---- the turns from the last row to the first

  pub agree-more : agree_at (slice i n rows) ≡ true → all (alike (at 0 last) (at 9 last)) (slice i n rows) ≡ true → agree_at (slice (i - 1) n rows) ≡ true
  agree-more a t = ap agree_at row_more ∙ and_both (all (alike (at 0 last) (at 9 last)) (slice i n rows)) (agree_at (slice i n rows)) t a

  pub agree-stop : all (alike (at 0 last) (at 9 last)) (slice i n rows) ≡ false → false ≡ agree_at (take n rows)
  agree-stop t = sym (within (i - 1) (take n rows) (ap agree_at row_more ∙ ap (λ (c : Bool). c && agree_at (slice i n rows)) t))
    where
      within : (j : ℕ) (l : List Row) → agree_at (drop j l) ≡ false → agree_at l ≡ false
      within zero l e = e
      within (suc j) [] e = e
      within (suc j) (w ∷ l) e = ap (λ (c : Bool). all (alike (at 0 w) (at 9 w)) l && c) (within j l e) ∙ and_no (all (alike (at 0 w) (at 9 w)) l)
        where
          and_no : (c : Bool) → (c && false) ≡ false
          and_no true = refl
          and_no false = refl

pub agree-none : (n : ℕ) (rows : List Row) → agree_at (slice n n rows) ≡ true
agree-none n rows = ap agree_at (slice_empty n rows)

pub agree-all : (i n : ℕ) (rows : List Row) → i ≡ 0 → agree_at (slice i n rows) ≡ true → true ≡ agree_at (take n rows)
agree-all i n rows e a = sym (sym (ap (λ (j : ℕ). agree_at (slice j n rows)) e) ∙ a)
