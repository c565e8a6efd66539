-- The loops over a segment, a turn at a time: rows that pass a test are counted or taken out, and each row is changed.
-- Assumes nothing.
use mathlib.Core.Path.{◌≡◌, refl, sym, ap, ap₂, ◌∙◌}
use mathlib.Core.Bool.{Bool, true, false, not}
use mathlib.Core.List.{List, [], ◌∷◌, ◌++◌, map, append-nil, append_assoc, map-append}
use Prim.Native.Nat.{ℕ, ◌+◌, ◌-◌, ◌≤◌, ◌<◌}
use native.Mathlib.Nat.{add-zero}
use native.Mathlib.Omega.{arith}
use lib.ListN.{length, take, drop, get_or, set, length-map, drop_of_length-le}
use lib.Seq.{slice, slice_empty, length-slice, set-get_or, take-length, drop-drop}
use Rattle.definition.specs.Layout.{Row}
use Rattle.words.proofs.Tests.{by-test}
use Rattle.definition.specs.Base.{whether◌then◌else◌, keep, tally}
use Rattle.definition.proofs.Reorder.{keep_append}
use Rattle.definition.proofs.Thin.{tally-append}
pub use Rattle.definition.proofs.Sums.{kept-length}
use Rattle.table.specs.Table.{closed, close_gap, mapped, rows_removed, remove_rows, compacted}
use Rattle.table.proofs.Bounds.{close-in, remove-in}
use Rattle.table.proofs.Lists.{slice-take, slice_snoc, written, written_none, written-length, written_at, written-drop, written-take, written-more}

-- ---- lists through a map

module _ {A B : Type 0} (g : A → B) (p : B → Bool) where
  pub tally-map : (l : List A) → tally p (map g l) ≡ tally (λ x. p (g x)) l
  tally-map [] = refl
  tally-map (x ∷ l) = ap (λ (n : ℕ). (whether p (g x) then 1 else 0) + n) (tally-map l)

  pub keep-map : (l : List A) → keep p (map g l) ≡ map g (keep (λ x. p (g x)) l)
  keep-map [] = refl
  keep-map (x ∷ l) = by-test (p (g x)) (λ t. rw t (ap (λ (m : List B). g x ∷ m) (keep-map l))) (λ t. rw t (keep-map l))

-- ---- counting

module _ (p : Row → Bool) where
  module _ (from i : ℕ) (rs : List Row) where
    pub tally-most : from ≤ i → i ≤ length rs → from + tally p (slice from i rs) ≤ i
    tally-most h b = omega (arith, kept-length p (slice from i rs), length-slice from i rs b)

    pub tally-turn : (x : Row) → from ≤ i → i < length rs → x ≡ get_or rs i [] → tally p (slice from (i + 1) rs) ≡ tally p (slice from i rs) + (whether p x then 1 else 0)
    tally-turn x h b e =
        ap (tally p) (slice_snoc from i rs [] h b ∙ ap (λ (r : Row). slice from i rs ++ (r ∷ [])) (sym e))
        ∙ tally-append p (slice from i rs) (x ∷ [])
        ∙ ap (λ (n : ℕ). tally p (slice from i rs) + n) (add-zero (whether p x then 1 else 0))

    -- a turn whose row passes the test by what b says, and one whose row does not
    pub count_turn : (x : Row) (b : Bool) (n v : ℕ) → from ≤ i → i < length rs → x ≡ get_or rs i [] → p x ≡ b → v ≡ (whether b then 1 else 0) → n ≡ tally p (slice from i rs)
        → n + v ≡ tally p (slice from (i + 1) rs)
    count_turn x b n v h k e t u q = ap₂ (λ (y z : ℕ). y + z) q (u ∙ ap (λ (a : Bool). whether a then 1 else 0) (sym t)) ∙ sym (tally-turn x h k e)

    pub count-miss : (x : Row) (n : ℕ) → from ≤ i → i < length rs → x ≡ get_or rs i [] → p x ≡ false → n ≡ tally p (slice from i rs)
        → n ≡ tally p (slice from (i + 1) rs)
    count-miss x n h k e t q = sym (add-zero n) ∙ count_turn x false n 0 h k e t refl q

  pub tally-none : (from : ℕ) (rs : List Row) → 0 ≡ tally p (slice from from rs)
  tally-none from rs = ap (tally p) (sym (slice_empty from rs))

-- ---- each row is changed

module _ (f : Row → Row) where
  pub mapped-none : (from : ℕ) (rs : List Row) → rs ≡ mapped f from from rs
  unfolding mapped written
  mapped-none from rs = written_none from rs ∙ ap (λ (l : List Row). take from rs ++ (map f l ++ drop from rs)) (sym (slice_empty from rs))

  pub mapped-size : (from to : ℕ) (rs : List Row) → from ≤ to → to ≤ length rs → from + length (map f (slice from to rs)) ≡ to
  mapped-size from to rs h b = omega (arith, length-map (slice from to rs) f, length-slice from to rs b)

  -- the first i rows changed
  abbrev pub front_mapped : ℕ → List Row → List Row
  front_mapped i rs = mapped f 0 i rs

  module _ (from i : ℕ) (rs now : List Row) (h : from ≤ i) (b : i < length rs) (q : now ≡ mapped f from i rs) where
    done-length : from + length (map f (slice from i rs)) ≡ i
    done-length = mapped-size from i rs h (omega arith)

    more : (x : Row) → x ≡ f (get_or rs i []) → map f (slice from i rs) ++ (x ∷ []) ≡ map f (slice from (i + 1) rs)
    more x e =
        ap (λ (r : Row). map f (slice from i rs) ++ (r ∷ [])) e
        ∙ sym (ap (map f) (slice_snoc from i rs [] h b) ∙ map-append f (slice from i rs) (get_or rs i [] ∷ []))

    -- the row that the loop reads
    pub mapped_at : get_or now i [] ≡ get_or rs i []
    unfolding mapped written
    mapped_at = ap (λ (l : List Row). get_or l i []) q ∙ written_at from i (map f (slice from i rs)) rs done-length i [] (omega arith) (omega arith)

    pub mapped-store : (x : Row) → x ≡ f (get_or now i []) → set now i x ≡ mapped f from (i + 1) rs
    unfolding mapped written
    mapped-store x e =
        ap (λ (l : List Row). set l i x) q
        ∙ written-more from i (map f (slice from i rs)) rs done-length x b
        ∙ ap (λ (l : List Row). written from l (i + 1) rs) (more x (e ∙ ap f mapped_at))

  -- a part is lent, and each of its rows changed
  mapped-whole : (s : List Row) → mapped f 0 (length s) s ≡ map f s
  unfolding mapped
  mapped-whole s = ap₂ (λ (x y : List Row). map f x ++ y) (take-length s) (drop_of_length-le s {i = length s} (omega arith)) ∙ append-nil (map f s)

  pub mapped-lent : (from to i : ℕ) (rs now : List Row) → from ≤ to → i ≡ length (take (to - from) (drop from rs)) → now ≡ front_mapped i (take (to - from) (drop from rs))
      → take from rs ++ (now ++ drop (to - from) (drop from rs)) ≡ mapped f from to rs
  unfolding mapped
  mapped-lent from to i rs now h e q =
      let s : List Row = take (to - from) (drop from rs) in
      let u : from + (to - from) ≡ to = omega arith in
      ap₂ (λ (x y : List Row). take from rs ++ (x ++ y))
      (q ∙ ap (λ (k : ℕ). mapped f 0 k s) e ∙ mapped-whole s ∙ ap (map f) (sym (slice-take from to rs h)))
      (drop-drop (to - from) from rs ∙ ap (λ (n : ℕ). drop n rs) u)

-- ---- rows are taken out

module _ (p : Row → Bool) where
  abbrev left : List Row → List Row
  left l = keep (λ r. not (p r)) l

  left-more : (l : List Row) (x : Row) → p x ≡ false → left (l ++ (x ∷ [])) ≡ left l ++ (x ∷ [])
  left-more l x t = keep_append (λ r. not (p r)) l (x ∷ []) ∙ rw t

  left-same : (l : List Row) (x : Row) → p x ≡ true → left (l ++ (x ∷ [])) ≡ left l
  left-same l x t = keep_append (λ r. not (p r)) l (x ∷ []) ∙ rw t (append-nil (left l))

  pub compacted-none : (from : ℕ) (rs : List Row) → rs ≡ compacted p from from rs
  unfolding compacted written
  compacted-none from rs =
      let e : from ≡ from - tally p (slice from from rs) = omega (arith, tally-none p from rs) in
      written_none from rs
      ∙ ap (λ (l : List Row). take from rs ++ (left l ++ drop from rs)) (sym (slice_empty from rs))
      ∙ ap (λ (n : ℕ). take from rs ++ (left (slice from from rs) ++ drop n rs)) e

  module _ (from i : ℕ) (rs : List Row) (h : from ≤ i) (b : i ≤ length rs) where
    left-length : from + length (left (slice from i rs)) ≡ i - tally p (slice from i rs)
    left-length = omega (arith, kept-length p (slice from i rs), length-slice from i rs b)

    pub compacted-length : length (compacted p from i rs) ≡ length rs
    unfolding compacted written
    compacted-length = written-length from (i - tally p (slice from i rs)) (left (slice from i rs)) rs left-length (omega arith)

    -- the rows after the segment close up
    pub compacted-closed : (n : ℕ) → i ≤ n → n ≤ length rs
        → closed (i - tally p (slice from i rs)) (tally p (slice from i rs)) n (compacted p from i rs) ≡ rows_removed p from i n rs
    unfolding closed compacted written rows_removed
    compacted-closed n k c =
        let s : List Row = slice from i rs in
        let g : ℕ = tally p s in
        let j : ℕ = i - g in
        let l : List Row = written from (left s) j rs in
        let u : j + g ≡ i = omega (arith, tally-most p from i rs h b) in
        let middle : slice (j + g) n l ≡ slice i n rs =
        ap (λ (m : ℕ). slice m n l) u ∙ slice-take i n l k
        ∙ ap (take (n - i)) (written-drop from j (left s) rs left-length i (omega arith) (omega arith))
        ∙ sym (slice-take i n rs k) in
        let back : drop (n - g) l ≡ drop (n - g) rs = written-drop from j (left s) rs left-length (n - g) (omega arith) (omega arith) in
        ap₂ (λ (x y : List Row). take j l ++ (x ++ y)) middle back
        ∙ ap (λ (x : List Row). x ++ (slice i n rs ++ drop (n - g) rs)) (written-take from j (left s) rs left-length (omega arith))
        ∙ append_assoc (take from rs) (left s) (slice i n rs ++ drop (n - g) rs)

  module _ (from i : ℕ) (rs now : List Row) (h : from ≤ i) (b : i < length rs) (q : now ≡ compacted p from i rs) where
    pub compacted-at : get_or now i [] ≡ get_or rs i []
    unfolding compacted written
    compacted-at =
        ap (λ (l : List Row). get_or l i []) q
        ∙ written_at from (i - tally p (slice from i rs)) (left (slice from i rs)) rs (left-length from i rs h (omega arith)) i [] (omega arith) (omega arith)

    grows : slice from (i + 1) rs ≡ slice from i rs ++ (get_or now i [] ∷ [])
    grows = slice_snoc from i rs [] h b ∙ ap (λ (r : Row). slice from i rs ++ (r ∷ [])) (sym compacted-at)

    pub compacted-gone : p (get_or now i []) ≡ true → now ≡ compacted p from (i + 1) rs
    unfolding compacted
    compacted-gone t =
        let e : i - tally p (slice from i rs) ≡ i + 1 - tally p (slice from (i + 1) rs) =
        omega (arith, tally-turn p from i rs (get_or now i []) h b compacted-at, ap (λ (a : Bool). whether◌then◌else◌ {A = ℕ} a 1 0) t) in
        let m : left (slice from i rs) ≡ left (slice from (i + 1) rs) = sym (ap left grows ∙ left-same (slice from i rs) (get_or now i []) t) in
        q ∙ ap₂ (λ (l : List Row) (n : ℕ). take from rs ++ (l ++ drop n rs)) m e

    pub compacted-kept : (g : ℕ) → g ≡ tally p (slice from i rs) → p (get_or now i []) ≡ false → set now (i - g) (get_or now i []) ≡ compacted p from (i + 1) rs
    unfolding compacted written
    compacted-kept g u t =
        let x : Row = get_or now i [] in
        let s : List Row = slice from i rs in
        let j : ℕ = i - tally p s in
        let v : i - g ≡ j = ap (λ (n : ℕ). i - n) u in
        let e : j + 1 ≡ i + 1 - tally p (slice from (i + 1) rs) =
        omega (arith, tally-most p from i rs h (omega arith), tally-turn p from i rs x h b compacted-at, ap (λ (a : Bool). whether◌then◌else◌ {A = ℕ} a 1 0) t) in
        ap (λ (n : ℕ). set now n x) v
        ∙ ap (λ (l : List Row). set l j x) q
        ∙ written-more from j (left s) rs (left-length from i rs h (omega arith)) x (omega arith)
        ∙ ap₂ (λ (l : List Row) (n : ℕ). take from rs ++ (l ++ drop n rs)) (sym (ap left grows ∙ left-more s x t)) e

    -- with none gone before it, a row stays where it is
    pub compacted-still : (g : ℕ) → g ≡ tally p (slice from i rs) → g ≡ 0 → p (get_or now i []) ≡ false → now ≡ compacted p from (i + 1) rs
    compacted-still g u z t =
        let v : i ≡ i - g = omega arith in
        sym (set-get_or now i []) ∙ ap (λ (n : ℕ). set now n (get_or now i [])) v ∙ compacted-kept g u t

-- the rows that pass are taken out: first the others of the segment move together, then the later ones close up
pub taken_out : (p : Row → Bool) (from to n g : ℕ) (rs middle end : List Row) → from ≤ to → to ≤ n → n ≤ length rs
    → g ≡ tally p (slice from to rs) → middle ≡ compacted p from to rs → end ≡ close_gap (to - g) g n middle → end ≡ remove_rows p from to n rs
taken_out p from to n g rs middle end h k b u q e =
    let s : length (compacted p from to rs) ≡ length rs = compacted-length p from to rs h (omega arith) in
    e
    ∙ ap₂ (λ (m : ℕ) (l : List Row). close_gap (to - m) m n l) u q
    ∙ close-in (to - tally p (slice from to rs)) (tally p (slice from to rs)) n (compacted p from to rs) (omega (arith, tally-most p from to rs h (omega arith))) (omega arith)
    ∙ compacted-closed p from to rs h (omega arith) n k b
    ∙ sym (remove-in p from to n rs h k b)
