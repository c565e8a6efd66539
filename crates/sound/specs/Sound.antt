-- The tests of a sound state that go over all rows, on the words of lent buffers, as the code makes them. What `sound` ensures is said by the
-- definitions alone. Assumes nothing.
use Rattle.std.specs.Prelude.{◌≡◌, ℕ, ◌+◌, ◌-◌, ◌%◌, ◌≤◌, ◌<◌, Bool, true, false, not, ◌&&◌, ◌||◌, List, [], ◌∷◌, ◌++◌, map, leb, eqb, take, drop, get_or}
use Rattle.entry.specs.Entry.{entry_of}
use Rattle.definition.specs.Base.{all, every, member, distinct, ascending}
use Rattle.definition.specs.Types.{Kind, queue, topic, Sub}
use Rattle.definition.specs.Consumer.{is_browser}
use Rattle.definition.specs.Calls.{bound, seqs, rows_of, taken, sizes_agree}
use Rattle.definition.specs.Words.{at}
use Rattle.shares.specs.Shares.{within_each, conns}
use Rattle.copies.specs.Copies.{shared_by}
use Rattle.subrows.specs.Subrows.{row_ok, holder_ok, sorted_ok, each_ok, ids_apart, seqs_at, reserved_at, waiting_at}
pub use Rattle.definition.specs.Words.{kind_by}
use Rattle.definition.specs.Layout.{Row, Buffers, subs_at, sub_rows, used_subs, used_rows, rings_formed}

-- ---- sequence numbers

-- what a consumer holds, and that on a topic it rises
abbrev pub held_seqs : Row → List Row → List Row → List ℕ
held_seqs w flying held = seqs_at held

abbrev pub held_rise : Bool → List ℕ → Bool
held_rise q l = q || ascending l

-- from x on, the same numbers stand in both
abbrev pub SameFrom : ℕ → List ℕ → List ℕ → Type 0
SameFrom x l m = (y : ℕ) → x ≤ y → member y l ≡ member y m

-- a number's remainder is marked in a table of 256, and the number is not one of w
abbrev pub slots_marked : List Bool → List ℕ → ℕ → Bool
slots_marked slots w x = get_or slots (x % 256) false && not (member x w)

-- so it is with each of them, and they are different
abbrev pub marked_apart : List Bool → List ℕ → List ℕ → Bool
marked_apart slots w l = all (slots_marked slots w) l && distinct l

-- what new numbers make of any that were met before
abbrev pub Met : List Bool → List Bool → List ℕ → List ℕ → Type 0
Met was slots w new = (l : List ℕ) → marked_apart was w l ≡ true → marked_apart slots w (l ++ new) ≡ true

-- a consumer of a queue that is no browser has no rows but those that are looked at with all of the queue's
abbrev pub apart_by : Kind → Sub → Bool
apart_by queue s = not (is_browser s) || distinct (seqs (rows_of s))
apart_by topic s = distinct (seqs (rows_of s))

-- ---- sizes

-- k rows from place a have the numbers and the sizes of those from place b
abbrev pub SameRows : ℕ → ℕ → ℕ → List Row → Type 0
SameRows a b k rows =
    (i : ℕ) → i < k → (at 0 (get_or rows (a + i) []) ≡ at 0 (get_or rows (b + i) [])) × (at 9 (get_or rows (a + i) []) ≡ at 9 (get_or rows (b + i) []))

-- copies among the first n rows agree on the size
abbrev pub sizes_at : ℕ → List Row → Bool
sizes_at n rows = sizes_agree (map entry_of (take n rows))

-- one consumer's rows, many before place end: they are different where each consumer's are
pub record HubAt (ws : List Row) (end many : ℕ) : Type 0 where
  pub room : many ≤ end
  pub within : end ≤ sub_rows ws
  pub apart : (rows : List Row) → all (apart_by topic) (subs_at topic ws rows) ≡ true → distinct (seqs_at (take many (drop (end - many) rows))) ≡ true

-- a topic's, whose consumers' rows were seen to be copies of one's: they agree on the size where each consumer's are different
pub record AlikeBy (q : Bool) (ws rows : List Row) : Type 0 where
  pub on-topic : q ≡ false
  pub agree : all (apart_by topic) (subs_at topic ws rows) ≡ true → sizes_at (sub_rows ws) rows ≡ true

-- ---- the tables, for so many rows of consumers, reserved ones and waiting ones

-- on a topic no row is reserved or waits
abbrev pub empty_by : Kind → ℕ → Bool
empty_by queue n = true
empty_by topic n = eqb n 0

-- a queue's entries, browsers' copies apart
abbrev pub queue_seqs : ℕ → ℕ → ℕ → List Row → List Row → List ℕ
queue_seqs others reserved waiting subs rows =
    seqs_at (waiting_at others reserved waiting rows) ++ (seqs_at (reserved_at others reserved rows) ++ seqs (taken (subs_at queue subs rows)))

abbrev pub queue_apart : Kind → ℕ → ℕ → ℕ → List Row → List Row → Bool
queue_apart queue others reserved waiting subs rows = distinct (queue_seqs others reserved waiting subs rows)
queue_apart topic others reserved waiting subs rows = true

-- what is asked besides of rows that are sound one by one
unfoldable pub numbers_ok : Kind → ℕ → ℕ → ℕ → List Row → List Row → Bool
numbers_ok k others reserved waiting subs rows =
    empty_by k (reserved + waiting)
    && ((queue_apart k others reserved waiting subs rows && all (apart_by k) (subs_at k subs rows)) && sizes_at (others + reserved + waiting) rows)

-- where no entry can have two rows, different numbers are enough
abbrev pub LoneAgree : Bool → ℕ → ℕ → ℕ → List Row → List Row → Type 0
LoneAgree q others reserved waiting subs rows =
    empty_by (kind_by q) (reserved + waiting) ≡ true
    → (queue_apart (kind_by q) others reserved waiting subs rows && all (apart_by (kind_by q)) (subs_at (kind_by q) subs rows)) ≡ true
    → shared_by q subs ≡ false
    → sizes_at (others + reserved + waiting) rows ≡ true

abbrev pub table_tests : Kind → ℕ → ℕ → ℕ → ℕ → List Row → List Row → List Bool
table_tests k most others reserved waiting subs rows =
    empty_by k (reserved + waiting)
    ∷ each_ok k most subs rows
    ∷ ids_apart subs
    ∷ (all row_ok (reserved_at others reserved rows) && all holder_ok (reserved_at others reserved rows))
    ∷ sorted_ok 0 (waiting_at others reserved waiting rows)
    ∷ (queue_apart k others reserved waiting subs rows && all (apart_by k) (subs_at k subs rows))
    ∷ sizes_at (others + reserved + waiting) rows
    ∷ []

unfoldable pub tables_ok : Kind → ℕ → ℕ → ℕ → ℕ → List Row → List Row → Bool
tables_ok k most others reserved waiting subs rows = every (table_tests k most others reserved waiting subs rows)

-- ---- shares, for so many rows of consumers and besides

abbrev pub conns_at : List Row → List ℕ
conns_at l = map (at 3) l

-- the connections of the rows that belong to any: on a queue no browser's
abbrev pub own_conns : Bool → ℕ → ℕ → List Row → List Row → List ℕ
own_conns true others rest subs rows = conns_at (take rest (drop others rows)) ++ conns (taken (subs_at queue subs rows))
own_conns false others rest subs rows = conns_at (take (others + rest) rows)

abbrev pub shares_at : ℕ → Bool → ℕ → ℕ → List Row → List Row → Bool
shares_at share q others rest subs rows = within_each share (own_conns q others rest subs rows)

-- ---- all

-- the tests after the head's
unfoldable pub rest_ok : Buffers → Bool
rest_ok b =
    let h = b.head in
    leb (used_rows b) 512
    && (rings_formed (at 14 h) (drop 113 h)
    && (tables_ok (kind_by (eqb (at 0 h) 0)) (bound (at 3 h)) (sub_rows (used_subs b)) (at 15 h) (at 16 h) (used_subs b) b.rows
    && shares_at (at 8346 h) (eqb (at 0 h) 0) (sub_rows (used_subs b)) (at 15 h + at 16 h) (used_subs b) b.rows))
