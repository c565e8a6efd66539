-- The tests of consumers and rows one by one, on the words of lent buffers, as the code makes them. Assumes nothing.
use Rattle.std.specs.Prelude.{◌≡◌, ℕ, suc, ◌+◌, ◌^◌, Bool, true, false, not, ◌&&◌, ◌||◌, List, [], ◌∷◌, ◌++◌, map, leb, ltb, eqb, length, take, drop}
use Rattle.words.specs.Words.{is_int}
use Rattle.words.specs.Pick.{whether◌then◌else◌}
use Rattle.entry.specs.Entry.{entry_of}
use Rattle.model.specs.Model.{same_id}
use Rattle.definition.specs.Base.{all, every, tally, ascending}
use Rattle.definition.specs.Types.{Kind, Sub}
use Rattle.definition.specs.Calls.{id_ok, entry_ok, optional, seqs, rows_of, sub_placed}
use Rattle.definition.specs.Words.{at}
use Rattle.definition.specs.Layout.{Row, flag, id_at, held_at, sub_at, each_sub, sub_rows, is_mark, entry_strict, words_strict, sub_strict}

-- ---- rows

-- each above the one before, and the first at least k
abbrev pub upward : ℕ → List ℕ → Bool
upward k [] = true
upward k (x ∷ xs) = leb k x && upward (suc x) xs

-- what is asked of one besides its sequence number: the mark and the redelivery are strict, the size is in range
abbrev pub row_fits : Row → Bool
row_fits w = is_mark (at 2 w) && (is_int (at 5 w) && ltb (at 9 w) (2 ^ 32))

-- and with it, of one after the last: it is above
abbrev pub row_after : ℕ → Row → Bool
row_after last w = ltb last (at 0 w) && row_fits w

-- one that holds an entry
abbrev pub row_ok : Row → Bool
row_ok w = entry_ok (entry_of w) && entry_strict w

-- and is in flight
abbrev pub flight_ok : Row → Bool
flight_ok w = row_ok w && (is_mark (at 7 w) && is_mark (at 8 w))

-- or is reserved: the identifier
abbrev pub holder_ok : Row → Bool
holder_ok w = id_ok (held_at w).holder

-- for words, an entry's tests are these
abbrev pub RowForm : Row → Type 0
RowForm w = row_ok w ≡ ((leb 1 (at 0 w) && ltb (at 0 w) (2 ^ 63)) && row_fits w)

-- their sequence numbers
abbrev pub seqs_at : List Row → List ℕ
seqs_at l = map (at 0) l

-- rows in flight, with the least delivery number that the first may have and those counted as freed before it
unfoldable pub flying_ok : ℕ → ℕ → ℕ → ℕ → List Row → Bool
flying_ok least count next freed l =
    all flight_ok l && (upward least (map (at 6) l ++ next ∷ []) && eqb freed (count + tally (λ w. flag (at 7 w)) l))

-- rows by rising sequence number
unfoldable pub sorted_ok : ℕ → List Row → Bool
sorted_ok least l = all row_ok l && upward least (map (at 0) l)

-- ---- consumers

-- the words of one, by themselves
abbrev pub word_tests : Bool → ℕ → Row → List Bool
word_tests q most w =
    ltb (at 3 w) (2 ^ 31)
    ∷ leb (at 4 w) 64
    ∷ ltb (at 9 w) (2 ^ 63)
    ∷ leb (at 8 w) most
    ∷ leb (at 12 w) most
    ∷ (eqb (at 10 w) 0 || leb (at 11 w) most)
    ∷ (not q || (flag (at 6 w) || eqb (at 15 w) 0))
    ∷ words_strict w
    ∷ []

-- and the rows that it holds besides those in flight
abbrev pub held_ok : Bool → List Row → Bool
held_ok true l = all row_ok l
held_ok false l = sorted_ok 0 l

-- `sub_sound` but for the distinctness of its sequence numbers, with the bound of its numbers
abbrev pub own_tests : Kind → ℕ → Sub → List Bool
own_tests k most s =
    id_ok s.id
    ∷ ltb s.prefetch (2 ^ 31)
    ∷ leb s.selector 64
    ∷ all entry_ok (rows_of s)
    ∷ ltb s.cursor (2 ^ 63)
    ∷ eqb s.freed (tally (λ i. i.freed) s.inflight)
    ∷ ascending (map (λ i. i.dseq) s.inflight ++ s.next_dseq ∷ [])
    ∷ ascending (seqs s.tpending)
    ∷ leb s.next_dseq most
    ∷ leb s.generation most
    ∷ optional (λ g. leb g most) s.pull
    ∷ sub_placed s k
    ∷ []

unfoldable pub own_sound : Kind → ℕ → Sub → Bool
own_sound k most s = every (own_tests k most s)

-- by its words and its rows, with those that have to be strict
abbrev pub own_ok : Kind → ℕ → Row → List Row → List Row → Bool
own_ok k most w flying held = own_sound k most (sub_at k w flying held) && sub_strict w flying held

abbrev pub each_ok : Kind → ℕ → List Row → List Row → Bool
each_ok k most ws rows = all (λ ok. ok) (each_sub (own_ok k most) ws rows)

-- no identifier twice
abbrev pub ids_apart : List Row → Bool
ids_apart [] = true
ids_apart (w ∷ ws) = all (λ v. not (same_id (id_at v) (id_at w))) ws && ids_apart ws

-- ---- all, for so many consumers, reserved rows and waiting ones

-- how many rows there are, or 513 for more than 512
abbrev pub rows_up_to : ℕ → ℕ
rows_up_to n = whether leb n 512 then n else 513

-- those of the first n consumers; 513 too where there are fewer consumers
abbrev pub rows_counted : ℕ → List Row → ℕ
rows_counted n subs = whether leb n (length subs) then rows_up_to (sub_rows (take n subs)) else 513

abbrev pub reserved_at : ℕ → ℕ → List Row → List Row
reserved_at others reserved rows = take reserved (drop others rows)

abbrev pub waiting_at : ℕ → ℕ → ℕ → List Row → List Row
waiting_at others reserved waiting rows = take waiting (drop (others + reserved) rows)

abbrev pub row_tests : Kind → ℕ → ℕ → ℕ → ℕ → List Row → List Row → List Bool
row_tests k most others reserved waiting subs rows =
    each_ok k most subs rows
    ∷ ids_apart subs
    ∷ (all row_ok (reserved_at others reserved rows) && all holder_ok (reserved_at others reserved rows))
    ∷ sorted_ok 0 (waiting_at others reserved waiting rows)
    ∷ []

-- the tables have them all, and each is sound by itself
unfoldable pub rows_sound : Kind → ℕ → ℕ → ℕ → ℕ → List Row → List Row → Bool
rows_sound k most n reserved waiting subs rows =
    let others = sub_rows (take n subs) in
    leb n (length subs)
    && (leb (others + (reserved + waiting)) 512
    && (leb (others + (reserved + waiting)) (length rows) && every (row_tests k most others reserved waiting (take n subs) rows)))
