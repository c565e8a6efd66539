-- A browser's part of the rows, in parts: the consumers' rows, the snapshot, the reserved rows, the waiting ones, and the rest.
-- Assumes nothing.
use mathlib.Core.Path.{◌≡◌, refl, sym, ap, ap₂, ◌∙◌}
use mathlib.Core.Bool.{Bool, not}
use mathlib.Core.List.{List, ◌++◌, append_assoc}
use Prim.Native.Nat.{ℕ, ◌+◌, ◌-◌, ◌≤◌}
use native.Mathlib.Omega.{arith}
use lib.ListN.{length, take, drop, length-append, length-drop, take-append-drop}
use lib.Seq.{slice, length-slice, length-take-le, take-take, take_at, drop_at, drop-drop}
use Rattle.definition.specs.Base.{keep, tally}
use Rattle.definition.specs.Layout.{Row}
use Rattle.definition.proofs.Lists.{keep-count, tally-keep}
use Rattle.table.specs.Table.{open_gap, compacted}
use Rattle.table.proofs.Lists.{slice-parts, drop-parts, parts}
use Rattle.table.proofs.Laws.{open-parts}
use Rattle.table.proofs.Segments.{kept-length}
use Rattle.state.specs.declared.Head.{Head}
use Rattle.state.specs.State.{first_waiting, first_reserved}
use Rattle.joins.specs.Joins.{gone_at, shown_by, copied_from, purged_head, browsed_head, purged_rows, gapped_rows, browsed_rows, Browses}

-- rows that pass a test taken out of a segment s between a and z
pub compacted-parts : (p : Row → Bool) (from to : ℕ) (a s z : List Row) → length a ≡ from → from + length s ≡ to
    → compacted p from to (a ++ (s ++ z)) ≡ a ++ (keep (λ r. not (p r)) s ++ drop (length (keep (λ r. not (p r)) s)) (s ++ z))
unfolding compacted
compacted-parts p from to a s z ea es =
    let rs : List Row = a ++ (s ++ z) in
    let left : List Row = keep (λ r. not (p r)) s in
    let e : from + length left ≡ to - tally p s = omega (arith, kept-length p s) in
    ap (λ (x : List Row). take from rs ++ (keep (λ r. not (p r)) x ++ drop (to - tally p x) rs)) (slice-parts from to a s z ea es)
    ∙ ap₂ (λ (x y : List Row). x ++ (left ++ y)) (take_at a (s ++ z) from ea) (drop-parts from (length left) (to - tally p s) a (s ++ z) ea e)

-- ---- the rows of a head, in parts

module _ (d : Head) (rows : List Row) (h : d.reserved + d.waiting ≤ d.used) (b : d.used ≤ length rows) where
  abbrev pub ours : List Row
  ours = take (first_reserved d) rows

  abbrev pub kept : List Row
  kept = drop (first_reserved d) (take (first_waiting d) rows)

  abbrev pub waits : List Row
  waits = slice (first_waiting d) d.used rows

  abbrev pub rest : List Row
  rest = drop d.used rows

  pub rows_are : rows ≡ ours ++ (kept ++ (waits ++ rest))
  rows_are =
      let a : ℕ = first_reserved d in
      let f : ℕ = first_waiting d in
      let l : a ≤ f = omega arith in
      let m : f ≤ d.used = omega arith in
      parts f d.used rows m
      ∙ ap (λ (x : List Row). x ++ (waits ++ rest)) (sym (take-append-drop a (take f rows)) ∙ ap (λ (x : List Row). x ++ kept) (take-take a f rows l))
      ∙ append_assoc ours kept (waits ++ rest)

  pub ours-length : length ours ≡ first_reserved d
  ours-length = let l : first_reserved d ≤ length rows = omega arith in length-take-le (first_reserved d) rows l

  pub kept-size : length kept ≡ d.reserved
  kept-size =
      let f : ℕ = first_waiting d in
      let l : f ≤ length rows = omega arith in
      let n : f - first_reserved d ≡ d.reserved = omega arith in
      length-drop (first_reserved d) (take f rows) ∙ ap (λ (m : ℕ). m - first_reserved d) (length-take-le f rows l) ∙ n

  pub waits-length : length waits ≡ d.waiting
  waits-length = let n : d.used - first_waiting d ≡ d.waiting = omega arith in length-slice (first_waiting d) d.used rows b ∙ n

  pub rest-length : length rest ≡ length rows - d.used
  rest-length = length-drop d.used rows

-- ---- with a snapshot

module _ (now selector k : ℕ) (d : Head) (rows : List Row) (b : Browses now selector k d rows) where
  pub long : d.used ≤ length rows
  long = omega (arith, b.room)

  abbrev a : List Row
  a = ours d rows b.others long

  abbrev r : List Row
  r = kept d rows b.others long

  abbrev w : List Row
  w = waits d rows b.others long

  abbrev z : List Row
  z = rest d rows b.others long

  -- the waiting rows that are left, the snapshot, and what stands after them
  abbrev pub live : List Row
  live = keep (λ x. not (gone_at now x)) w

  abbrev pub shown : List Row
  shown = keep (shown_by selector) live

  abbrev pub gone : ℕ
  gone = tally (gone_at now) w

  after : List Row
  after = drop (length live) (w ++ z)

  abbrev pub left : List Row
  left = drop k (drop (length live) (w ++ z))

  live-size : length live + gone ≡ d.waiting
  live-size = kept-length (gone_at now) w ∙ waits-length d rows b.others long

  pub live-length : length live ≡ d.waiting - gone
  live-length = omega (arith, live-size)

  pub gone-few : gone ≤ d.waiting
  gone-few = omega (arith, live-size)

  shown-count : tally (shown_by selector) live ≡ k
  shown-count = tally-keep (λ x. not (gone_at now x)) (shown_by selector) w ∙ sym b.taken

  pub shown-length : length shown ≡ k
  shown-length = keep-count (shown_by selector) live ∙ shown-count

  abbrev e : Head
  e = purged_head now d rows

  abbrev f : Head
  f = browsed_head now k d rows

  -- where the reserved rows begin, and the waiting ones after the gap is open
  place_is : first_reserved e ≡ first_reserved d
  place_is = omega (arith, gone-few, b.others)

  waiting-is : first_waiting f ≡ first_reserved d + (k + d.reserved)
  waiting-is = omega (arith, gone-few, b.others)

  used-is : f.used ≡ first_reserved d + (k + d.reserved) + length live
  used-is = omega (arith, live-size, b.others)

  purged-is : purged_rows now d rows ≡ a ++ ((r ++ live) ++ after)
  unfolding after
  purged-is =
      let n : first_reserved d + d.reserved ≡ first_waiting d = omega (arith, b.others) in
      let m : first_waiting d + d.waiting ≡ d.used = omega (arith, b.others) in
      let ea : length (a ++ r) ≡ first_waiting d = length-append a r ∙ ap₂ (λ (x y : ℕ). x + y) (ours-length d rows b.others long) (kept-size d rows b.others long) ∙ n in
      let es : first_waiting d + length w ≡ d.used = ap (λ (x : ℕ). first_waiting d + x) (waits-length d rows b.others long) ∙ m in
      ap (compacted (gone_at now) (first_waiting d) d.used) (rows_are d rows b.others long ∙ sym (append_assoc a r (w ++ z)))
      ∙ compacted-parts (gone_at now) (first_waiting d) d.used (a ++ r) w z ea es
      ∙ append_assoc a r (live ++ after)
      ∙ ap (λ (x : List Row). a ++ x) (sym (append_assoc r live after))

  after-long : k ≤ length after
  unfolding after
  after-long = omega (arith, length-drop (length live) (w ++ z), length-append w z, waits-length d rows b.others long, rest-length d rows b.others long, live-size, b.room)

  -- what the gap holds is left as it was
  junk : List Row
  junk = take k ((r ++ live) ++ (take k after ++ drop k after))

  gapped-is : gapped_rows now k d rows ≡ a ++ (junk ++ ((r ++ live) ++ left))
  unfolding after junk
  gapped-is =
      let split : after ≡ take k after ++ drop k after = sym (take-append-drop k after) in
      let size : first_reserved d + length (r ++ live) ≡ e.used =
      omega (arith, length-append r live, kept-size d rows b.others long, live-size, b.others) in
      ap₂ (λ (n : ℕ) (l : List Row). open_gap n k e.used l) place_is (purged-is ∙ ap (λ (x : List Row). a ++ ((r ++ live) ++ x)) split)
      ∙ open-parts (first_reserved d) k e.used a (take k after) (r ++ live) (drop k after) (ours-length d rows b.others long) size (length-take-le k after after-long)

  junk-length : length junk ≡ k
  unfolding junk
  junk-length = length-take-le k ((r ++ live) ++ (take k after ++ drop k after))
      (omega (arith, length-append (r ++ live) (take k after ++ drop k after), length-append (take k after) (drop k after), length-take-le k after after-long))

  -- the rows that the copy reads
  pub copy-from : slice (first_waiting f) f.used (gapped_rows now k d rows) ≡ live
  copy-from =
      let x : List Row = a ++ (junk ++ r) in
      let ex : length x ≡ first_reserved d + (k + d.reserved) =
      length-append a (junk ++ r) ∙ ap₂ (λ (m n : ℕ). m + n) (ours-length d rows b.others long) (length-append junk r ∙ ap₂ (λ (m n : ℕ). m + n) junk-length (kept-size d rows b.others long)) in
      let same : gapped_rows now k d rows ≡ x ++ (live ++ left) =
      gapped-is
      ∙ ap (λ (y : List Row). a ++ (junk ++ y)) (append_assoc r live left)
      ∙ ap (λ (y : List Row). a ++ y) (sym (append_assoc junk r (live ++ left)))
      ∙ sym (append_assoc a (junk ++ r) (live ++ left)) in
      ap (slice (first_waiting f) f.used) same
      ∙ slice-parts (first_waiting f) f.used x live left (ex ∙ sym waiting-is) (ap (λ (n : ℕ). n + length live) waiting-is ∙ sym used-is)

  pub copy-room : first_reserved e + tally (shown_by selector) (slice (first_waiting f) f.used (gapped_rows now k d rows)) ≤ first_waiting f
  copy-room =
      let n : tally (shown_by selector) (slice (first_waiting f) f.used (gapped_rows now k d rows)) ≡ k = ap (tally (shown_by selector)) copy-from ∙ shown-count in
      let p = place_is in
      let q = waiting-is in
      omega arith

  -- in the end
  pub browsed-is : browsed_rows now selector k d rows ≡ a ++ (shown ++ (r ++ (live ++ left)))
  unfolding copied_from
  browsed-is =
      let g : List Row = gapped_rows now k d rows in
      let x : List Row = (r ++ live) ++ left in
      let back : drop (first_reserved d + k) g ≡ x =
      ap (drop (first_reserved d + k)) gapped-is
      ∙ drop-parts (first_reserved d) k (first_reserved d + k) a (junk ++ x) (ours-length d rows b.others long) refl
      ∙ drop_at junk x k junk-length in
      let front : take (first_reserved d) g ≡ a = ap (take (first_reserved d)) gapped-is ∙ take_at a (junk ++ x) (first_reserved d) (ours-length d rows b.others long) in
      ap₂ (λ (n : ℕ) (l : List Row). take n g ++ (keep (shown_by selector) l ++ drop (n + tally (shown_by selector) l) g)) place_is copy-from
      ∙ ap (λ (n : ℕ). take (first_reserved d) g ++ (shown ++ drop (first_reserved d + n) g)) shown-count
      ∙ ap₂ (λ (l m : List Row). l ++ (shown ++ m)) front (back ∙ append_assoc r live left)

  -- what stands past the used rows, and how many rows there are
  sizes : length a + (length r + length w) ≡ d.used
  sizes = omega (arith, ours-length d rows b.others long, kept-size d rows b.others long, waits-length d rows b.others long, b.others)

  whole : length rows ≡ length a + (length r + (length w + length z))
  whole =
      ap length (rows_are d rows b.others long)
      ∙ length-append a (r ++ (w ++ z))
      ∙ ap (λ (n : ℕ). length a + n) (length-append r (w ++ z) ∙ ap (λ (n : ℕ). length r + n) (length-append w z))

  live-few : length live ≤ length w
  live-few = omega (arith, kept-length (gone_at now) w)

  pub browsed-length : length (browsed_rows now selector k d rows) ≡ length rows
  browsed-length =
      let one : length (a ++ (shown ++ (r ++ (live ++ left)))) ≡ length a + (length shown + (length r + (length live + length left))) =
      length-append a (shown ++ (r ++ (live ++ left)))
      ∙ ap (λ (n : ℕ). length a + n)
      (length-append shown (r ++ (live ++ left)) ∙ ap (λ (n : ℕ). length shown + n) (length-append r (live ++ left) ∙ ap (λ (n : ℕ). length r + n) (length-append live left))) in
      let two : length left ≡ length w + length z - length live - k =
      length-drop k (drop (length live) (w ++ z)) ∙ ap (λ (n : ℕ). n - k) (length-drop (length live) (w ++ z) ∙ ap (λ (n : ℕ). n - length live) (length-append w z)) in
      ap length browsed-is ∙ omega (arith, one, two, shown-length, whole, sizes, live-few, b.room)

  pub browsed-past : drop 512 (browsed_rows now selector k d rows) ≡ drop 512 rows
  browsed-past =
      let x : List Row = a ++ (shown ++ (r ++ live)) in
      let ex : length x ≡ length a + (length shown + (length r + length live)) =
      length-append a (shown ++ (r ++ live)) ∙ ap (λ (n : ℕ). length a + n) (length-append shown (r ++ live) ∙ ap (λ (n : ℕ). length shown + n) (length-append r live)) in
      let low : length x ≤ 512 = omega (arith, ex, shown-length, sizes, live-few, b.few) in
      let same : browsed_rows now selector k d rows ≡ x ++ left =
      browsed-is
      ∙ ap (λ (y : List Row). a ++ (shown ++ y)) (sym (append_assoc r live left))
      ∙ ap (λ (y : List Row). a ++ y) (sym (append_assoc shown (r ++ live) left))
      ∙ sym (append_assoc a (shown ++ (r ++ live)) left) in
      let n : length live + (k + (512 - length x)) ≡ 512 - length (a ++ r) = omega (arith, ex, low, shown-length, length-append a r, sizes, live-few, b.few) in
      let front : length (a ++ r) ≤ 512 = omega (arith, length-append a r, sizes, b.few) in
      ap (drop 512) same
      ∙ drop-parts (length x) (512 - length x) 512 x left refl (omega arith)
      ∙ drop-drop (512 - length x) k (drop (length live) (w ++ z))
      ∙ drop-drop (k + (512 - length x)) (length live) (w ++ z)
      ∙ ap (λ (m : ℕ). drop m (w ++ z)) n
      ∙ sym (ap (drop 512) (rows_are d rows b.others long ∙ sym (append_assoc a r (w ++ z))) ∙ drop-parts (length (a ++ r)) (512 - length (a ++ r)) 512 (a ++ r) (w ++ z) refl (omega arith))
