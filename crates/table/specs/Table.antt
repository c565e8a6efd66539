-- The table of rows: the used rows stand at the front, in one order. What each function of the table leaves, as lists of rows.
-- Outside its bounds a function changes nothing. A row is ten words: 0 the sequence number, 5 redelivery, 6 the delivery number, 7 freed (0 is no),
-- 8 acknowledged in a transaction, 9 the size. Assumes nothing.
use Rattle.std.specs.Prelude.{◌≡◌, Bool, false, not, ◌&&◌, List, [], ◌∷◌, ◌++◌, map, ℕ, suc, ◌+◌, ◌-◌, leb, eqb, length, take, drop, get_or, set, Option, Some, None}
use Rattle.std.proofs.Math.Seq.{slice}
use Rattle.words.specs.Words.{unsigned, int}
use Rattle.entry.specs.Entry.{one_more}
use Rattle.definition.specs.Base.{whether◌then◌else◌, keep, tally, member}
use Rattle.definition.specs.Layout.{Row}
use Rattle.table.specs.declared.Removed.{Removed}
use Rattle.table.specs.declared.Span.{Span}

-- from ≤ to ≤ n
abbrev pub inside : ℕ → ℕ → ℕ → Bool
inside from to n = leb from to && leb to n

-- at ≤ n, and k more fit
abbrev pub gap_room : ℕ → ℕ → ℕ → ℕ → Bool
gap_room at n k most = leb at n && leb (n + k) most

-- rows at..at+k of the first n are gone; the last k of the n places keep what they held
unfoldable pub closed : ℕ → ℕ → ℕ → List Row → List Row
closed at k n rs = take at rs ++ (slice (at + k) n rs ++ drop (n - k) rs)

unfoldable pub close_gap : ℕ → ℕ → ℕ → List Row → List Row
close_gap at k n rs = whether inside (at + k) n (length rs) then closed at k n rs else rs

-- a row is put in at place at of the first n
unfoldable pub row_opened : ℕ → ℕ → Row → List Row → List Row
row_opened at n row rs = take at rs ++ row ∷ (slice at n rs ++ drop (suc n) rs)

unfoldable pub insert_row : ℕ → ℕ → Row → List Row → List Row
insert_row at n row rs = whether gap_room at n 1 (length rs) then row_opened at n row rs else rs

-- the first n rows from at on stand k places further up; rows at..at+k keep what they held
unfoldable pub lifted : ℕ → ℕ → ℕ → List Row → List Row
lifted at k n rs = take (at + k) rs ++ (slice at n rs ++ drop (n + k) rs)

unfoldable pub open_gap : ℕ → ℕ → ℕ → List Row → List Row
open_gap at k n rs = whether gap_room at n k (length rs) then lifted at k n rs else rs

-- the first of the rows with that sequence number; the first of the rows stands at i
unfoldable pub find_from : ℕ → ℕ → List Row → Option ℕ
find_from i seq [] = None
find_from i seq (r ∷ rs) = whether eqb (get_or r 0 0) seq then Some i else find_from (suc i) seq rs

unfoldable pub find_seq : ℕ → ℕ → ℕ → List Row → Option ℕ
find_seq from to seq rs = whether inside from to (length rs) then find_from from seq (slice from to rs) else None

-- whether one of the rows has that sequence number
abbrev pub holds_seq : ℕ → List Row → Bool
holds_seq seq rs = member seq (map (λ r. get_or r 0 0) rs)

unfoldable pub has_seq_in : ℕ → ℕ → ℕ → List Row → Bool
has_seq_in from to seq rs = whether inside from to (length rs) then holds_seq seq (slice from to rs) else false

-- the first of the rows whose sequence number is not below that one, or the end
unfoldable pub place_from : ℕ → ℕ → List Row → ℕ
place_from i seq [] = i
place_from i seq (r ∷ rs) = whether leb seq (get_or r 0 0) then i else place_from (suc i) seq rs

unfoldable pub place_of : ℕ → ℕ → ℕ → List Row → ℕ
place_of from to seq rs = whether inside from to (length rs) then place_from from seq (slice from to rs) else to

-- ---- rows of a segment, by a test and by a change of a row

-- a number is from first to last
abbrev pub in_numbers : Span → ℕ → Bool
in_numbers p n = leb p.first n && leb n p.last

-- none is from 1 to 0
abbrev pub no_span : Span
no_span = record { first = 1; last = 0 }

-- a delivery number from first to last, both included
abbrev pub dseq_between : ℕ → ℕ → Row → Bool
dseq_between first last r = leb first (get_or r 6 0) && leb (get_or r 6 0) last

abbrev pub is_freed : Row → Bool
is_freed r = not (eqb (get_or r 7 0) 0)

abbrev pub has_seq : ℕ → Row → Bool
has_seq seq r = eqb (get_or r 0 0) seq

-- how many rows of from..to pass a test
unfoldable pub count_rows : (Row → Bool) → ℕ → ℕ → List Row → ℕ
count_rows p from to rs = whether inside from to (length rs) then tally p (slice from to rs) else 0

-- each row of from..to is changed by f
unfoldable pub mapped : (Row → Row) → ℕ → ℕ → List Row → List Row
mapped f from to rs = take from rs ++ (map f (slice from to rs) ++ drop to rs)

unfoldable pub map_rows : (Row → Row) → ℕ → ℕ → List Row → List Row
map_rows f from to rs = whether inside from to (length rs) then mapped f from to rs else rs

-- freed, with tx in a transaction
abbrev pub freed_row : Bool → Row → Row
freed_row tx r = whether tx then set (set r 7 1) 8 1 else set r 7 1

abbrev pub mark_row : ℕ → ℕ → Bool → Row → Row
mark_row first last tx r = whether dseq_between first last r then freed_row tx r else r

-- redelivery.saturating_add(1)
abbrev pub raised_row : Row → Row
raised_row r = set r 5 (unsigned (one_more (int (get_or r 5 0))))

abbrev pub redeliver_row : ℕ → ℕ → Row → Row
redeliver_row first last r = whether dseq_between first last r then raised_row r else r

abbrev pub unmark_row : Row → Row
unmark_row r = set r 8 0

-- sent with a delivery number, neither freed nor acknowledged in a transaction
abbrev pub flown_row : ℕ → Row → Row
flown_row dseq r = set (set (set r 6 dseq) 7 0) 8 0

-- the rows of from..to that pass a test are gone from the first n; the last of the n places keep what they held
unfoldable pub rows_removed : (Row → Bool) → ℕ → ℕ → ℕ → List Row → List Row
rows_removed p from to n rs = take from rs ++ (keep (λ r. not (p r)) (slice from to rs) ++ (slice to n rs ++ drop (n - tally p (slice from to rs)) rs))

-- from ≤ to ≤ n ≤ most
abbrev pub segment_of : ℕ → ℕ → ℕ → ℕ → Bool
segment_of from to n most = inside from to n && leb n most

unfoldable pub remove_rows : (Row → Bool) → ℕ → ℕ → ℕ → List Row → List Row
remove_rows p from to n rs = whether segment_of from to n (length rs) then rows_removed p from to n rs else rs

-- how many of them there were
unfoldable pub removed_rows : (Row → Bool) → ℕ → ℕ → ℕ → List Row → ℕ
removed_rows p from to n rs = whether segment_of from to n (length rs) then tally p (slice from to rs) else 0

abbrev pub removed_range : ℕ → ℕ → ℕ → ℕ → ℕ → List Row → Removed
removed_range first last from to n rs = record {
  rows = removed_rows (dseq_between first last) from to n rs;
  freed = removed_rows (λ r. dseq_between first last r && is_freed r) from to n rs;
}

-- the rows of from..to that fail a test, moved together
unfoldable pub compacted : (Row → Bool) → ℕ → ℕ → List Row → List Row
compacted p from to rs = take from rs ++ (keep (λ r. not (p r)) (slice from to rs) ++ drop (to - tally p (slice from to rs)) rs)

-- the answers that may come are those of a test
abbrev pub Tests : (Row → Bool → Type 0) → (Row → Bool) → Type 0
Tests answers p = (r : Row) (b : Bool) → answers r b → b ≡ p r
