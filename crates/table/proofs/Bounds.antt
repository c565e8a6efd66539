-- What each definition says within its bounds.
-- Assumes nothing.
use Rattle.std.specs.Prelude.{None}
use mathlib.Core.Path.{◌≡◌}
use mathlib.Core.Bool.{Bool, false}
use mathlib.Core.List.{List}
use Prim.Native.Nat.{ℕ, ◌+◌, ◌≤◌}
use lib.ListN.{length}
use lib.Seq.{slice}
use Rattle.definition.specs.Layout.{Row}
use Rattle.definition.specs.Base.{tally}
use Rattle.table.specs.Table.{closed, close_gap, row_opened, insert_row, lifted, open_gap, find_from, find_seq, holds_seq, has_seq_in, place_from, place_of, count_rows, mapped, map_rows, rows_removed, remove_rows, removed_rows}
use Rattle.table.proofs.Lists.{both_hold, three-hold}

module _ (at k n : ℕ) (rs : List Row) where
  pub close-in : at + k ≤ n → n ≤ length rs → close_gap at k n rs ≡ closed at k n rs
  unfolding close_gap
  close-in h b = both_hold (at + k) n n (length rs) (closed at k n rs) rs h b

  pub open_in : at ≤ n → n + k ≤ length rs → open_gap at k n rs ≡ lifted at k n rs
  unfolding open_gap
  open_in h b = both_hold at n (n + k) (length rs) (lifted at k n rs) rs h b

module _ (at n : ℕ) (row : Row) (rs : List Row) where
  pub insert-in : at ≤ n → n + 1 ≤ length rs → insert_row at n row rs ≡ row_opened at n row rs
  unfolding insert_row
  insert-in h b = both_hold at n (n + 1) (length rs) (row_opened at n row rs) rs h b

module _ (from to seq : ℕ) (rs : List Row) where
  pub find-in : from ≤ to → to ≤ length rs → find_seq from to seq rs ≡ find_from from seq (slice from to rs)
  unfolding find_seq
  find-in h b = both_hold from to to (length rs) (find_from from seq (slice from to rs)) None h b

  pub has_in : from ≤ to → to ≤ length rs → has_seq_in from to seq rs ≡ holds_seq seq (slice from to rs)
  unfolding has_seq_in
  has_in h b = both_hold from to to (length rs) (holds_seq seq (slice from to rs)) false h b

  pub place_in : from ≤ to → to ≤ length rs → place_of from to seq rs ≡ place_from from seq (slice from to rs)
  unfolding place_of
  place_in h b = both_hold from to to (length rs) (place_from from seq (slice from to rs)) to h b

module _ (p : Row → Bool) (from to : ℕ) (rs : List Row) where
  pub count-in : from ≤ to → to ≤ length rs → count_rows p from to rs ≡ tally p (slice from to rs)
  unfolding count_rows
  count-in h b = both_hold from to to (length rs) (tally p (slice from to rs)) 0 h b

module _ (f : Row → Row) (from to : ℕ) (rs : List Row) where
  pub map-in : from ≤ to → to ≤ length rs → map_rows f from to rs ≡ mapped f from to rs
  unfolding map_rows
  map-in h b = both_hold from to to (length rs) (mapped f from to rs) rs h b

module _ (p : Row → Bool) (from to n : ℕ) (rs : List Row) where
  pub remove-in : from ≤ to → to ≤ n → n ≤ length rs → remove_rows p from to n rs ≡ rows_removed p from to n rs
  unfolding remove_rows
  remove-in h k b = three-hold from to n (length rs) (rows_removed p from to n rs) rs h k b

  pub gone-in : from ≤ to → to ≤ n → n ≤ length rs → removed_rows p from to n rs ≡ tally p (slice from to rs)
  unfolding removed_rows
  gone-in h k b = three-hold from to n (length rs) (tally p (slice from to rs)) 0 h k b
