-- What a caller needs of each function's table: its length, the rows before and after those concerned, the used rows, and the table
-- in parts (a table a ++ .. whose parts have the lengths that the numbers say).
-- Assumes nothing.
use mathlib.Core.Path.{◌≡◌, refl, sym, ap, ap₂, ◌∙◌}
use mathlib.Core.Bool.{Bool, not}
use mathlib.Core.List.{List, ◌∷◌, ◌++◌, map, append_assoc}
use Prim.Native.Nat.{ℕ, suc, ◌+◌, ◌-◌, ◌≤◌}
use native.Mathlib.Omega.{arith}
use lib.ListN.{length, take, drop, length-append}
use lib.Seq.{slice, length-slice, take_at}
use Rattle.definition.specs.Layout.{Row}
use Rattle.definition.specs.Base.{keep, tally}
use Rattle.table.specs.Table.{closed, close_gap, row_opened, insert_row, lifted, open_gap, place_from, place_of, mapped, map_rows, rows_removed, remove_rows, removed_rows}
use Rattle.table.proofs.Lists.{guarded, guarded₃, written, written-length, written_low, written-drop, written-take, slice-parts, drop-parts, take-parts}
use Rattle.table.proofs.Bounds.{close-in, open_in, insert-in, place_in, map-in, remove-in, gone-in}
use Rattle.table.proofs.Segments.{kept-length, tally-most, mapped-size}

-- ---- each table is one that was written from a place on

module _ (at k n : ℕ) (rs : List Row) (h : at + k ≤ n) (b : n ≤ length rs) where
  closed-size : at + length (slice (at + k) n rs) ≡ n - k
  closed-size = omega (arith, length-slice (at + k) n rs b)

  closed_is : closed at k n rs ≡ written at (slice (at + k) n rs) (n - k) rs
  unfolding closed written
  closed_is = refl

module _ (at k n : ℕ) (rs : List Row) (h : at ≤ n) (b : n + k ≤ length rs) where
  lifted-size : at + k + length (slice at n rs) ≡ n + k
  lifted-size = omega (arith, length-slice at n rs (omega arith))

  lifted-is : lifted at k n rs ≡ written (at + k) (slice at n rs) (n + k) rs
  unfolding lifted written
  lifted-is = refl

module _ (at n : ℕ) (row : Row) (rs : List Row) (h : at ≤ n) (b : n + 1 ≤ length rs) where
  opened-size : at + length (row ∷ slice at n rs) ≡ n + 1
  opened-size = omega (arith, length-slice at n rs (omega arith))

  opened-is : row_opened at n row rs ≡ written at (row ∷ slice at n rs) (n + 1) rs
  unfolding row_opened written
  opened-is = let e : suc n ≡ n + 1 = omega arith in ap (λ (m : ℕ). take at rs ++ (row ∷ slice at n rs ++ drop m rs)) e

module _ (f : Row → Row) (from to : ℕ) (rs : List Row) (h : from ≤ to) (b : to ≤ length rs) where
  mapped-is : mapped f from to rs ≡ written from (map f (slice from to rs)) to rs
  unfolding mapped written
  mapped-is = refl

module _ (p : Row → Bool) (from to n : ℕ) (rs : List Row) (h : from ≤ to) (k : to ≤ n) (b : n ≤ length rs) where
  abbrev stays : List Row
  stays = keep (λ r. not (p r)) (slice from to rs) ++ slice to n rs

  removed-size : from + length stays ≡ n - tally p (slice from to rs)
  removed-size =
      omega
      (arith, length-append (keep (λ r. not (p r)) (slice from to rs)) (slice to n rs), kept-length p (slice from to rs), length-slice from to rs (omega arith), length-slice to n rs b)

  removed-is : rows_removed p from to n rs ≡ written from stays (n - tally p (slice from to rs)) rs
  unfolding rows_removed written
  removed-is = ap (λ (x : List Row). take from rs ++ x) (sym (append_assoc (keep (λ r. not (p r)) (slice from to rs)) (slice to n rs) (drop (n - tally p (slice from to rs)) rs)))

-- ---- close_gap

module _ (at k n : ℕ) (rs : List Row) where
  pub close-length : length (close_gap at k n rs) ≡ length rs
  unfolding close_gap
  close-length = guarded (λ (l : List Row). length l ≡ length rs) (at + k) n n (length rs) (closed at k n rs) rs
      (λ h b. ap length (closed_is at k n rs h b) ∙ written-length at (n - k) (slice (at + k) n rs) rs (closed-size at k n rs h b) (omega arith)) refl

  pub close-before : (m : ℕ) → m ≤ at → take m (close_gap at k n rs) ≡ take m rs
  unfolding close_gap
  close-before m l = guarded (λ (x : List Row). take m x ≡ take m rs) (at + k) n n (length rs) (closed at k n rs) rs
      (λ h b. ap (take m) (closed_is at k n rs h b) ∙ written_low at (n - k) (slice (at + k) n rs) rs (closed-size at k n rs h b) m l (omega arith)) refl

  pub close-after : (m : ℕ) → n - k ≤ m → drop m (close_gap at k n rs) ≡ drop m rs
  unfolding close_gap
  close-after m l = guarded (λ (x : List Row). drop m x ≡ drop m rs) (at + k) n n (length rs) (closed at k n rs) rs
      (λ h b. ap (drop m) (closed_is at k n rs h b) ∙ written-drop at (n - k) (slice (at + k) n rs) rs (closed-size at k n rs h b) m l (omega arith)) refl

  -- the used rows
  pub close-used : at + k ≤ n → n ≤ length rs → take (n - k) (close_gap at k n rs) ≡ take at rs ++ slice (at + k) n rs
  close-used h b = ap (take (n - k)) (close-in at k n rs h b ∙ closed_is at k n rs h b) ∙ written-take at (n - k) (slice (at + k) n rs) rs (closed-size at k n rs h b) (omega arith)

-- ---- open_gap

module _ (at k n : ℕ) (rs : List Row) where
  pub open-length : length (open_gap at k n rs) ≡ length rs
  unfolding open_gap
  open-length = guarded (λ (l : List Row). length l ≡ length rs) at n (n + k) (length rs) (lifted at k n rs) rs
      (λ h b. ap length (lifted-is at k n rs h b) ∙ written-length (at + k) (n + k) (slice at n rs) rs (lifted-size at k n rs h b) b) refl

-- ---- insert_row

module _ (at n : ℕ) (row : Row) (rs : List Row) where
  pub insert-length : length (insert_row at n row rs) ≡ length rs
  unfolding insert_row
  insert-length = guarded (λ (l : List Row). length l ≡ length rs) at n (n + 1) (length rs) (row_opened at n row rs) rs
      (λ h b. ap length (opened-is at n row rs h b) ∙ written-length at (n + 1) (row ∷ slice at n rs) rs (opened-size at n row rs h b) b) refl

  pub insert-after : (m : ℕ) → n + 1 ≤ m → drop m (insert_row at n row rs) ≡ drop m rs
  unfolding insert_row
  insert-after m l = guarded (λ (x : List Row). drop m x ≡ drop m rs) at n (n + 1) (length rs) (row_opened at n row rs) rs
      (λ h b. ap (drop m) (opened-is at n row rs h b) ∙ written-drop at (n + 1) (row ∷ slice at n rs) rs (opened-size at n row rs h b) m l b) refl

-- ---- mark_range, redeliver_range, unmark

module _ (f : Row → Row) (from to : ℕ) (rs : List Row) where
  pub map-length : length (map_rows f from to rs) ≡ length rs
  unfolding map_rows
  map-length = guarded (λ (l : List Row). length l ≡ length rs) from to to (length rs) (mapped f from to rs) rs
      (λ h b. ap length (mapped-is f from to rs h b) ∙ written-length from to (map f (slice from to rs)) rs (mapped-size f from to rs h b) b) refl

  pub map-before : (m : ℕ) → m ≤ from → take m (map_rows f from to rs) ≡ take m rs
  unfolding map_rows
  map-before m l = guarded (λ (x : List Row). take m x ≡ take m rs) from to to (length rs) (mapped f from to rs) rs
      (λ h b. ap (take m) (mapped-is f from to rs h b) ∙ written_low from to (map f (slice from to rs)) rs (mapped-size f from to rs h b) m l b) refl

  pub map-after : (m : ℕ) → to ≤ m → drop m (map_rows f from to rs) ≡ drop m rs
  unfolding map_rows
  map-after m l = guarded (λ (x : List Row). drop m x ≡ drop m rs) from to to (length rs) (mapped f from to rs) rs
      (λ h b. ap (drop m) (mapped-is f from to rs h b) ∙ written-drop from to (map f (slice from to rs)) rs (mapped-size f from to rs h b) m l b) refl

  pub map-used : from ≤ to → to ≤ length rs → take to (map_rows f from to rs) ≡ take from rs ++ map f (slice from to rs)
  map-used h b = ap (take to) (map-in f from to rs h b ∙ mapped-is f from to rs h b) ∙ written-take from to (map f (slice from to rs)) rs (mapped-size f from to rs h b) b

-- ---- remove_range, remove_seq, remove_expired

module _ (p : Row → Bool) (from to n : ℕ) (rs : List Row) where
  pub remove-length : length (remove_rows p from to n rs) ≡ length rs
  unfolding remove_rows
  remove-length = guarded₃ (λ (l : List Row). length l ≡ length rs) from to n (length rs) (rows_removed p from to n rs) rs
      (λ h k b. ap length (removed-is p from to n rs h k b) ∙ written-length from (n - tally p (slice from to rs)) (stays p from to n rs h k b) rs (removed-size p from to n rs h k b) (omega arith)) refl

  pub remove-before : (m : ℕ) → m ≤ from → take m (remove_rows p from to n rs) ≡ take m rs
  unfolding remove_rows
  remove-before m l = guarded₃ (λ (x : List Row). take m x ≡ take m rs) from to n (length rs) (rows_removed p from to n rs) rs
      (λ h k b. ap (take m) (removed-is p from to n rs h k b) ∙ written_low from (n - tally p (slice from to rs)) (stays p from to n rs h k b) rs (removed-size p from to n rs h k b) m l (omega arith)) refl

  pub remove-after : (m : ℕ) → n - tally p (slice from to rs) ≤ m → drop m (remove_rows p from to n rs) ≡ drop m rs
  unfolding remove_rows
  remove-after m l = guarded₃ (λ (x : List Row). drop m x ≡ drop m rs) from to n (length rs) (rows_removed p from to n rs) rs
      (λ h k b. ap (drop m) (removed-is p from to n rs h k b) ∙ written-drop from (n - tally p (slice from to rs)) (stays p from to n rs h k b) rs (removed-size p from to n rs h k b) m l (omega arith)) refl

  pub remove-used : from ≤ to → to ≤ n → n ≤ length rs
      → take (n - tally p (slice from to rs)) (remove_rows p from to n rs) ≡ take from rs ++ (keep (λ r. not (p r)) (slice from to rs) ++ slice to n rs)
  remove-used h k b =
      ap (take (n - tally p (slice from to rs))) (remove-in p from to n rs h k b ∙ removed-is p from to n rs h k b)
      ∙ written-take from (n - tally p (slice from to rs)) (stays p from to n rs h k b) rs (removed-size p from to n rs h k b) (omega arith)

  -- what was counted is at most the segment
  pub gone-most : from ≤ to → to ≤ n → n ≤ length rs → from + removed_rows p from to n rs ≤ to
  gone-most h k b = omega (arith, gone-in p from to n rs h k b, tally-most p from to rs h (omega arith))

-- ---- the table in parts

-- rows b go, and c comes down in their place
pub close-parts : (at k n : ℕ) (a b c d : List Row) → length a ≡ at → length b ≡ k → at + k + length c ≡ n
    → close_gap at k n (a ++ (b ++ (c ++ d))) ≡ a ++ (c ++ drop (length c) (b ++ (c ++ d)))
unfolding closed
close-parts at k n a b c d ea eb ec =
    let rs : List Row = a ++ (b ++ (c ++ d)) in
    let size : n ≤ length rs = simp length-append (omega arith) in
    let middle : slice (at + k) n rs ≡ c =
    ap (slice (at + k) n) (sym (append_assoc a b (c ++ d))) ∙ slice-parts (at + k) n (a ++ b) c d (length-append a b ∙ omega arith) ec in
    close-in at k n rs (omega arith) size
    ∙ ap₂ (λ (x y : List Row). x ++ (slice (at + k) n rs ++ y)) (take_at a (b ++ (c ++ d)) at ea) (drop-parts at (length c) (n - k) a (b ++ (c ++ d)) ea (omega arith))
    ∙ ap (λ (x : List Row). a ++ (x ++ drop (length c) (b ++ (c ++ d)))) middle

-- row x goes, and the new row stands before c: with a row made of x, the rotation that sends a waiting row
pub insert-parts : (at n : ℕ) (row x : Row) (a c d : List Row) → length a ≡ at → at + length c ≡ n
    → insert_row at n row (a ++ (c ++ x ∷ d)) ≡ a ++ row ∷ (c ++ d)
unfolding row_opened
insert-parts at n row x a c d ea ec =
    let rs : List Row = a ++ (c ++ x ∷ d) in
    let size : n + 1 ≤ length rs = simp length-append (omega arith) in
    let tail : drop (suc n) rs ≡ d =
    drop-parts at (suc (length c)) (suc n) a (c ++ x ∷ d) ea (omega arith) ∙ drop-parts (length c) 1 (suc (length c)) c (x ∷ d) refl (omega arith) in
    insert-in at n row rs (omega arith) size
    ∙ ap₂ (λ (y z : List Row). y ++ row ∷ (slice at n rs ++ z)) (take_at a (c ++ x ∷ d) at ea) tail
    ∙ ap (λ (y : List Row). a ++ row ∷ (y ++ d)) (slice-parts at n a c (x ∷ d) ea ec)

-- rows b go, and c goes up into their place; the k places that it leaves keep what they held
pub open-parts : (at k n : ℕ) (a b c d : List Row) → length a ≡ at → at + length c ≡ n → length b ≡ k
    → open_gap at k n (a ++ (c ++ (b ++ d))) ≡ a ++ (take k (c ++ (b ++ d)) ++ (c ++ d))
unfolding lifted
open-parts at k n a b c d ea ec eb =
    let rs : List Row = a ++ (c ++ (b ++ d)) in
    let size : n + k ≤ length rs = simp length-append (omega arith) in
    let tail : drop (n + k) rs ≡ d =
    drop-parts at (length c + k) (n + k) a (c ++ (b ++ d)) ea (omega arith)
    ∙ drop-parts (length c) k (length c + k) c (b ++ d) refl refl
    ∙ drop-parts k 0 k b d eb (omega arith) in
    open_in at k n rs (omega arith) size
    ∙ ap₂ (λ (y z : List Row). y ++ (slice at n rs ++ z)) (take-parts at k (at + k) a (c ++ (b ++ d)) ea refl) tail
    ∙ ap (λ (y : List Row). (a ++ take k (c ++ (b ++ d))) ++ (y ++ d)) (slice-parts at n a c (b ++ d) ea ec)
    ∙ append_assoc a (take k (c ++ (b ++ d))) (c ++ d)

-- a segment s between a and z
module _ (from to : ℕ) (a s z : List Row) (ea : length a ≡ from) (es : from + length s ≡ to) where
  size : to ≤ length (a ++ (s ++ z))
  size = simp length-append (omega arith)

  middle : slice from to (a ++ (s ++ z)) ≡ s
  middle = slice-parts from to a s z ea es

  pub place-parts : (seq : ℕ) → place_of from to seq (a ++ (s ++ z)) ≡ place_from from seq s
  place-parts seq = place_in from to seq (a ++ (s ++ z)) (omega arith) size ∙ ap (place_from from seq) middle

  pub map-parts : (f : Row → Row) → map_rows f from to (a ++ (s ++ z)) ≡ a ++ (map f s ++ z)
  unfolding mapped
  map-parts f =
      let rs : List Row = a ++ (s ++ z) in
      let tail : drop to rs ≡ z = drop-parts from (length s) to a (s ++ z) ea es ∙ drop-parts (length s) 0 (length s) s z refl (omega arith) in
      map-in f from to rs (omega arith) size
      ∙ ap₂ (λ (x y : List Row). x ++ (map f (slice from to rs) ++ y)) (take_at a (s ++ z) from ea) tail
      ∙ ap (λ (x : List Row). a ++ (map f x ++ z)) middle

-- a segment s between a and the later used rows c
module _ (p : Row → Bool) (from to n : ℕ) (a s c d : List Row) (ea : length a ≡ from) (es : from + length s ≡ to) (ec : to + length c ≡ n) where
  fits : n ≤ length (a ++ (s ++ (c ++ d)))
  fits = simp length-append (omega arith)

  segment : slice from to (a ++ (s ++ (c ++ d))) ≡ s
  segment = slice-parts from to a s (c ++ d) ea es

  later : slice to n (a ++ (s ++ (c ++ d))) ≡ c
  later = ap (slice to n) (sym (append_assoc a s (c ++ d))) ∙ slice-parts to n (a ++ s) c d (length-append a s ∙ omega arith) ec

  pub gone-parts : removed_rows p from to n (a ++ (s ++ (c ++ d))) ≡ tally p s
  gone-parts = gone-in p from to n (a ++ (s ++ (c ++ d))) (omega arith) (omega arith) fits ∙ ap (tally p) segment

  pub remove-parts : remove_rows p from to n (a ++ (s ++ (c ++ d)))
      ≡ a ++ (keep (λ r. not (p r)) s ++ (c ++ drop (length (keep (λ r. not (p r)) s) + length c) (s ++ (c ++ d))))
  unfolding rows_removed
  remove-parts =
      let rs : List Row = a ++ (s ++ (c ++ d)) in
      let left : List Row = keep (λ r. not (p r)) s in
      let e : from + (length left + length c) ≡ n - tally p s = omega (arith, kept-length p s) in
      remove-in p from to n rs (omega arith) (omega arith) fits
      ∙ ap₂ (λ (x y : List Row). take from rs ++ (keep (λ r. not (p r)) x ++ (y ++ drop (n - tally p x) rs))) segment later
      ∙ ap₂ (λ (x y : List Row). x ++ (left ++ (c ++ y))) (take_at a (s ++ (c ++ d)) from ea) (drop-parts from (length left + length c) (n - tally p s) a (s ++ (c ++ d)) ea e)
