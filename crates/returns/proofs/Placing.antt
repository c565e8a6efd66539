-- The row at a place goes to its number's place among the waiting ones. Assumes nothing.
use mathlib.Core.Path.{◌≡◌, refl, sym, ap, ap₂, ◌∙◌}
use mathlib.Core.Bool.{Bool, true, false, ◌&&◌, true≢false}
use mathlib.Core.List.{List, [], ◌∷◌, ◌++◌, map}
use Prim.Native.Nat.{ℕ, suc, ◌+◌, ◌-◌, ◌≤◌, ◌<◌}
use native.Mathlib.Omega.{arith}
use borrow.Author.Tests.{ltb-true, eqb-true, lt-ltb, eq-eqb}
use lib.Dec.{ltb, eqb}
use lib.ListN.{length, take, drop, get_or, set, length-set}
use lib.Seq.{slice, length-slice, get_or-take, get_or-drop, drop-set-lt, take-set-le, set_split}
use Rattle.entry.specs.Entry.{entry_of}
use Rattle.definition.specs.Base.{all}
use Rattle.definition.specs.Types.{Entry}
use Rattle.definition.specs.Layout.{entry_strict, Row}
use Rattle.definition.proofs.Tests.{and_left, and_right, and_both}
use Rattle.definition.proofs.Lists.{all_append}
use Rattle.table.specs.Table.{place_from, place_of, close_gap}
use Rattle.table.proofs.Bounds.{place_in}
use Rattle.table.proofs.Search.{place-within}
use Rattle.table.proofs.Laws.{close-length, close-after}
use Rattle.consumers.proofs.Strict.{all_first, all_rest}
use Rattle.state.specs.declared.Head.{Head}
use Rattle.state.specs.State.{first_waiting, with_waiting, with_used}
use Rattle.returns.specs.Gaps.{cut, waiting_in, Open, Placed}
use Rattle.returns.proofs.Rows.{slice_front, slice-drop, slice-set-past, slice-set-in, closed-low, closed-high, turned-length, turned-after, turned-low, turned-high}
use Rattle.returns.proofs.Insert.{insert-new, insert-same}

-- a strict row among strict ones
strict-among : (k j : ℕ) (w : List Row) (x : Row) → entry_strict x ≡ true → all entry_strict w ≡ true → all entry_strict (take k w ++ x ∷ drop j w) ≡ true
strict-among k j w x h s = all_append entry_strict (take k w) (x ∷ drop j w) (all_first entry_strict k w s) (and_both (entry_strict x) _ h (all_rest entry_strict j w s))

module _ (from : ℕ) (e : Entry) (d : Head) (rows : List Row) (o : Open from d (length rows)) where
  abbrev first : ℕ
  first = first_waiting d

  abbrev pub place : ℕ
  place = place_of (first_waiting d) d.used e.seq rows

  abbrev pub again : Bool
  again = ltb place d.used && eqb (get_or (get_or rows place []) 0 0) e.seq

  pub place-bounds : (from + 1 ≤ first_waiting d) × (first_waiting d ≤ place) × (place ≤ d.used) × (d.used ≤ length rows)
  place-bounds =
      let f : first ≤ d.used = omega arith in
      let w = place-within first d.used e.seq rows f in
      (omega (arith, o.before), w.0, w.1, omega (arith, o.used, o.long))

  -- the number of rows before the place
  abbrev k : ℕ
  k = place - first

  sits : first + k ≡ place
  sits = let b = place-bounds in omega arith

  found : place_from first e.seq (waiting_in d rows) ≡ first + k
  found = let b = place-bounds in sym (place_in first d.used e.seq rows (omega arith) b.3) ∙ sym sits

  there : place < d.used → get_or (waiting_in d rows) k [] ≡ get_or rows place []
  there h = get_or-drop first (take d.used rows) k [] ∙ ap (λ (n : ℕ). get_or (take d.used rows) n []) sits ∙ get_or-take d.used rows place [] h

  module _ (row : Row) (is : entry_of row ≡ e) (well : entry_strict row ≡ true) where
    -- over the row that waits with the same number
    pub placed-over : (r : Head) (rows' : List Row) → again ≡ true → r ≡ with_used (d.used - 1) d → rows' ≡ close_gap from 1 d.used (set rows place row)
        → Placed from e d r rows rows'
    placed-over r rows' t p q =
        let b = place-bounds in
        let h : place < d.used = ltb-true place d.used (and_left _ _ t) in
        let inside : k < length (waiting_in d rows) = omega (arith, sits, length-slice first d.used rows b.3) in
        let l : List Row = set rows place row in
        let size : length l ≡ length rows = length-set rows place row in
        let here : get_or (get_or (waiting_in d rows) k []) 0 0 ≡ e.seq = ap (λ (x : Row). get_or x 0 0) (there h) ∙ eqb-true _ _ (and_right (ltb place d.used) _ t) in
        let low : take (first - 1) (close_gap from 1 d.used l) ≡ cut from 1 first rows =
        closed-low from 1 first d.used l b.0 (omega arith) (omega arith)
        ∙ ap₂ (λ (x y : List Row). x ++ y) (take-set-le from rows place row (omega arith)) (slice-set-past (from + 1) first place rows row b.1) in
        let high : slice (first - 1) (d.used - 1) (close_gap from 1 d.used l) ≡ set (waiting_in d rows) k row =
        closed-high from 1 first d.used l b.0 (omega arith) (omega arith)
        ∙ ap (λ (n : ℕ). slice first d.used (set rows n row)) (sym sits)
        ∙ slice-set-in first d.used k rows row (omega (arith, sits)) in
        rw (p, q) (record {
          low = low;
          strict = λ s. ap (all entry_strict) (high ∙ set_split (waiting_in d rows) k row inside) ∙ strict-among k (suc k) (waiting_in d rows) row well s;
          waits = ap (map entry_of) high ∙ insert-same row e is first k (waiting_in d rows) found inside here;
          head = refl;
          counts = omega arith;
          used = omega arith;
          waiting = omega (arith, o.before);
          past = close-after from 1 d.used l 512 (omega (arith, o.used)) ∙ drop-set-lt 512 rows place row (omega (arith, o.used));
          size = close-length from 1 d.used l ∙ size;
        })

    -- or before the first that is not below it
    pub placed-new : (r : Head) (rows' : List Row) → again ≡ false → r ≡ with_waiting (d.waiting + 1) d → rows' ≡ set (close_gap from 1 place rows) (place - 1) row
        → Placed from e d r rows rows'
    placed-new r rows' t p q =
        let b = place-bounds in
        let w : List Row = waiting_in d rows in
        let new : k < length w → get_or (get_or w k []) 0 0 ≡ e.seq → ⊥ = (λ h x.
        let g : place < d.used = omega (arith, sits, length-slice first d.used rows b.3) in
        true≢false (sym (and_both _ _ (lt-ltb place d.used g) (eq-eqb _ _ (ap (λ (y : Row). get_or y 0 0) (sym (there g)) ∙ x))) ∙ t)) in
        let front : slice first place rows ≡ take k w = sym (slice_front k first d.used rows (omega (arith, sits)) ∙ ap (λ (n : ℕ). slice first n rows) sits) in
        let back : slice place d.used rows ≡ drop k w = sym (slice-drop k first d.used rows ∙ ap (λ (n : ℕ). slice n d.used rows) sits) in
        let high : slice (first - 1) d.used (set (close_gap from 1 place rows) (place - 1) row) ≡ take k w ++ row ∷ drop k w =
        turned-high from place rows row (omega arith) (omega arith) first d.used b.0 b.1 b.2 b.3
        ∙ ap₂ (λ (x y : List Row). x ++ row ∷ y) front back in
        rw (p, q) (record {
          low = turned-low from place rows row (omega arith) (omega arith) first d.used b.0 b.1 b.2 b.3;
          strict = λ s. ap (all entry_strict) high ∙ strict-among k k w row well s;
          waits = ap (map entry_of) high ∙ insert-new row e is first k w found new;
          head = refl;
          counts = omega arith;
          used = omega arith;
          waiting = omega (arith, o.before);
          past = turned-after from place rows row (omega arith) (omega arith) 512 (omega (arith, o.used));
          size = turned-length from place rows row (omega arith) (omega arith);
        })
