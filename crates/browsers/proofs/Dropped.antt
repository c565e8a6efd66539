-- The waiting rows with a sequence number go: the rows about a consumer, and the entries that wait. Assumes nothing.
use mathlib.Core.Path.{◌≡◌, refl, sym, ap, ap₂, ◌∙◌}
use mathlib.Core.Bool.{Bool, not}
use mathlib.Core.List.{List, [], ◌∷◌, ◌++◌, append-nil, map}
use Prim.Native.Nat.{ℕ, ◌+◌, ◌-◌, ◌≤◌, ◌<◌}
use native.Mathlib.Omega.{arith}
use borrow.Author.Tests.{eq-eqb, ne_eqb, eqb-true, eqb-false}
use lib.Dec.{eqb}
use lib.ListN.{length, take, drop, get_or}
use lib.Seq.{slice, slice_empty, length-take-le, drop-append-le, drop-drop, take-take}
use Rattle.words.proofs.Tests.{by-test}
use Rattle.entry.specs.Entry.{entry_of}
use Rattle.definition.specs.Base.{whether◌then◌else◌, keep, tally}
use Rattle.definition.specs.Types.{Entry}
use Rattle.definition.specs.Consumer.{same_seq}
use Rattle.definition.specs.Layout.{Row}
use Rattle.table.specs.Table.{has_seq, close_gap, remove_rows, removed_rows}
use Rattle.table.proofs.Lists.{slice-take, agree-drop}
use Rattle.table.proofs.Segments.{tally-most}
use Rattle.table.proofs.Laws.{remove-length, remove-before, remove-used, gone-most}
use Rattle.state.specs.declared.Head.{Head}
use Rattle.state.specs.State.{first_waiting}
use Rattle.state.specs.Parts.{Parts, parts_of}
use Rattle.state.proofs.Parts.{held_first, parts-lost}

-- ---- rows that go are entries that go

-- a row has the number of an entry, as the definition asks it
same_number : (e : Entry) (r : Row) → same_seq e (entry_of r) ≡ has_seq e.seq r
unfolding entry_of
same_number e r = by-test (eqb (get_or r 0 0) e.seq)
    (λ h. eq-eqb e.seq (get_or r 0 0) (sym (eqb-true (get_or r 0 0) e.seq h)) ∙ sym h)
    (λ h. ne_eqb e.seq (get_or r 0 0) (λ q. eqb-false (get_or r 0 0) e.seq h (sym q)) ∙ sym h)

pub entries-left : (e : Entry) (l : List Row) → keep (λ f. not (same_seq e f)) (map entry_of l) ≡ map entry_of (keep (λ r. not (has_seq e.seq r)) l)
entries-left e [] = refl
entries-left e (r ∷ l) = rw (same_number e r) (by-test (has_seq e.seq r) (λ h. rw h (entries-left e l)) (λ h. rw h (ap (λ (x : List Entry). entry_of r ∷ x) (entries-left e l))))

pub entries-gone : (e : Entry) (l : List Row) → tally (same_seq e) (map entry_of l) ≡ tally (has_seq e.seq) l
entries-gone e [] = refl
entries-gone e (r ∷ l) = ap₂ (λ (b : Bool) (n : ℕ). (whether b then 1 else 0) + n) (same_number e r) (entries-gone e l)

-- no more go than wait
pub gone-few : (seq : ℕ) (d : Head) (rows : List Row) (from k : ℕ) → from ≡ first_waiting d → k ≡ removed_rows (has_seq seq) from d.used d.used rows
    → d.waiting ≤ d.used → d.used ≤ length rows → k ≤ d.waiting
gone-few seq d rows from k f e h l =
    let most : from + removed_rows (has_seq seq) from d.used d.used rows ≤ d.used = gone-most (has_seq seq) from d.used d.used rows (omega arith) (omega arith) l in
    omega arith

-- ---- the rows about a consumer

module _ (p : Row → Bool) (base a h m w u : ℕ) (rows : List Row) (fits : base + a + h + m + w ≡ u) (long : u ≤ length rows) where
  abbrev end : ℕ
  end = base + a + h

  -- where the waiting rows begin
  abbrev from : ℕ
  from = u - w

  abbrev later : List Row
  later = take (u - end) (drop end rows)

  abbrev gone : ℕ
  gone = tally p (slice from u rows)

  -- those that wait
  pub waiting-rows : slice from u rows ≡ drop m later
  waiting-rows =
      let e : from ≡ end + m = omega arith in
      ap (λ (n : ℕ). drop n (take u rows)) e ∙ sym (drop-drop m end (take u rows)) ∙ ap (drop m) (slice-take end u rows (omega arith))

  abbrev stay : List Row
  stay = keep (λ r. not (p r)) (drop m later)

  -- of the rows after its own the first m are as they were
  pub parts-dropped : parts_of base a h (u - gone) (remove_rows p from u u rows)
      ≡ record { before = take base rows; flying = take a (drop base rows); held = take h (drop (base + a) rows); after = take m later ++ stay }
  parts-dropped =
      let c : List Row = remove_rows p from u u rows in
      let low : (n : ℕ) → n ≤ from → take n c ≡ take n rows = remove-before p from u u rows in
      let one : base + a - base ≡ a = omega arith in
      let two : end - (base + a) ≡ h = omega arith in
      let fly : take a (drop base c) ≡ take a (drop base rows) =
      ap (λ (n : ℕ). take n (drop base c)) (sym one) ∙ agree-drop base (base + a) c rows (low (base + a) (omega arith)) (omega arith) ∙ ap (λ (n : ℕ). take n (drop base rows)) one in
      let own : take h (drop (base + a) c) ≡ take h (drop (base + a) rows) =
      ap (λ (n : ℕ). take n (drop (base + a) c)) (sym two) ∙ agree-drop (base + a) end c rows (low end (omega arith)) (omega arith) ∙ ap (λ (n : ℕ). take n (drop (base + a) rows)) two in
      let few : end ≤ u - gone = omega (arith, tally-most p from u rows (omega arith) long) in
      let three : from - end ≡ m = omega arith in
      let first : drop end (take from rows) ≡ take m later =
      slice-take end from rows (omega arith) ∙ ap (λ (n : ℕ). take n (drop end rows)) three ∙ sym (take-take m (u - end) (drop end rows) (omega arith)) in
      let tail : take (u - gone - end) (drop end c) ≡ take m later ++ stay =
      sym (slice-take end (u - gone) c few)
      ∙ ap (drop end) (remove-used p from u u rows (omega arith) (omega arith) long)
      ∙ drop-append-le end (take from rows) (keep (λ r. not (p r)) (slice from u rows) ++ slice u u rows) (rw (length-take-le from rows (omega arith)) (omega arith))
      ∙ ap₂ (λ (x y : List Row). x ++ y) first (ap₂ (λ (x y : List Row). keep (λ r. not (p r)) x ++ y) waiting-rows (slice_empty u rows) ∙ append-nil stay) in
      λ i. record { before = low base (omega arith) i; flying = fly i; held = own i; after = tail i }

  -- and then the first row that it holds goes
  module _ (some : 0 < h) (k : ℕ) (is : k ≡ gone) where
    abbrev left : List Row
    left = remove_rows p from u u rows

    still : base + a + h ≤ u - k
    still = omega (arith, tally-most p from u rows (omega arith) long)

    -- so few rows stay
    long-left : u - k ≤ length left
    long-left = omega (arith, remove-length p from u u rows)

    pub parts-gone : parts_of base a (h - 1) (u - k - 1) (close_gap (base + a) 1 (u - k) left)
        ≡ record { before = take base rows; flying = take a (drop base rows); held = take (h - 1) (drop (base + a + 1) rows); after = take m later ++ stay }
    parts-gone =
        let q : parts_of base a h (u - k) left ≡ record { before = take base rows; flying = take a (drop base rows); held = take h (drop (base + a) rows); after = take m later ++ stay } =
        ap (λ (n : ℕ). parts_of base a h (u - n) left) is ∙ parts-dropped in
        let own : take (h - 1) (drop (base + a + 1) left) ≡ take (h - 1) (drop (base + a + 1) rows) =
        ap (drop 1) (sym (held_first base a h (u - k) left some still long-left) ∙ ap (λ (x : Parts). x.held) q ∙ held_first base a h u rows some (omega arith) long) in
        parts-lost base a h (u - k) left some still long-left
        ∙ (λ i. record { before = (q i).before; flying = (q i).flying; held = own i; after = (q i).after })
