-- The destination in lent buffers, as docs/LAYOUT.md has it word by word: `view` is what they hold, `formed` says that the counts fit the
-- tables, and `strict` that each mark in use is 0 or 1 and each redelivery in use an i32. `view` reads a mark that is not 0 as yes, and the lower
-- half of a redelivery; of words that are not in use nothing is asked. Assumes nothing.
use Rattle.std.specs.Prelude.{ℕ, zero, suc, ◌+◌, Bool, true, false, not, ◌&&◌, ◌||◌, List, [], ◌∷◌, map, leb, ltb, eqb, length, take, drop, replicate}
use Rattle.std.proofs.Math.Option.{Option, none, some}
use mir.Val.{bool_byte}
use Rattle.words.specs.Words.{unsigned, is_int}
use Rattle.audit.specs.Audit as Ring
use Rattle.audit.specs.declared.Audit as RingState
use Rattle.entry.specs.Entry.{entry_of}
use Rattle.model.specs.Model.{id_of}
use Rattle.definition.specs.Base.{whether◌then◌else◌, all, every}
use Rattle.definition.specs.Types.{Kind, queue, topic, Id, Entry, Inflight, Sub, Stats, Held, Audit, Dest, Event, letter, message, null}
use Rattle.definition.specs.Consumer.{zero_stats}
use Rattle.definition.specs.Calls.{Lengths, short, state_short, sound, Call, Result, refused, call}
use Rattle.definition.specs.Queries.{Query, Asked, asked, query, Counted, counters, Page, page, page_max}
use Rattle.definition.specs.Words.{at, kind_of, step}

abbrev pub Row : Type 0
Row = List ℕ

-- the state that a caller lends: the head's words, 16 words for each consumer, 10 words for each copy of an entry
pub record Buffers : Type 0 where
  pub head : List ℕ
  pub subs : List Row
  pub rows : List Row

abbrev pub lent : List ℕ → List Row → List Row → Buffers
lent head subs rows = record { head = head; subs = subs; rows = rows }

abbrev pub flag : ℕ → Bool
flag w = not (eqb w 0)

abbrev pub id_at : List ℕ → Id
id_at w = id_of (at 0 w) (at 1 w) (at 2 w)

-- ---- rows

-- in flight: six words of the entry, then delivery number, freed, tx, and the entry's size
abbrev pub inflight_at : Row → Inflight
inflight_at w = record { dseq = at 6 w; entry = entry_of w; freed = flag (at 7 w); tx = flag (at 8 w) }

-- reserved: six words of the entry, then the identifier of the consumer that left, and the entry's size
abbrev pub held_at : Row → Held
held_at w = record { holder = id_at (drop 6 w); entry = entry_of w }

-- ---- consumers

-- how many rows a consumer has in flight, and how many it holds besides
abbrev pub inflight_count : Row → ℕ
inflight_count w = at 14 w

abbrev pub held_count : Row → ℕ
held_count w = at 15 w

-- what a consumer holds is a snapshot where it browses a queue, and else what waits for it on a topic
abbrev pub browser_at : Kind → Bool → List Entry → Option (List Entry)
browser_at k false l = none
browser_at queue true l = some l
browser_at topic true l = some []

abbrev pub tpending_at : Kind → Bool → List Entry → List Entry
tpending_at queue true l = []
tpending_at queue false l = l
tpending_at topic b l = l

-- a consumer, by its words, its rows in flight and those that it holds
unfoldable pub sub_at : Kind → Row → List Row → List Row → Sub
sub_at k w flying held = record {
  id = id_at w;
  prefetch = at 3 w;
  selector = at 4 w;
  no_local = flag (at 5 w);
  browser = browser_at k (flag (at 6 w)) (map entry_of held);
  finished = flag (at 7 w);
  inflight = map inflight_at flying;
  freed = at 13 w;
  next_dseq = at 8 w;
  cursor = at 9 w;
  pull = whether flag (at 10 w) then some (at 11 w) else none;
  generation = at 12 w;
  tpending = tpending_at k (flag (at 6 w)) (map entry_of held);
}

-- the consumers, each with its rows: the rows stand in the consumers' order
module _ {A : Type 0} (of : Row → List Row → List Row → A) where
  unfoldable pub each_sub : List Row → List Row → List A
  each_sub [] rows = []
  each_sub (w ∷ ws) rows =
      of w (take (inflight_count w) rows) (take (held_count w) (drop (inflight_count w) rows)) ∷ each_sub ws (drop (held_count w) (drop (inflight_count w) rows))

abbrev pub subs_at : Kind → List Row → List Row → List Sub
subs_at k ws rows = each_sub (sub_at k) ws rows

-- how many rows the consumers have
unfoldable pub sub_rows : List Row → ℕ
sub_rows [] = 0
sub_rows (w ∷ ws) = inflight_count w + (held_count w + sub_rows ws)

-- ---- the head

-- identifiers, three words each
unfoldable pub ids_at : ℕ → List ℕ → List Id
ids_at zero l = []
ids_at (suc n) l = id_at l ∷ ids_at n (drop 3 l)

-- audits: identifier, start, count, and the window of 1,024 words
abbrev pub ring_at : List ℕ → RingState.Audit
ring_at l = record { start = at 3 l; count = at 4 l }

unfoldable pub audits_at : ℕ → List ℕ → List Audit
audits_at zero l = []
audits_at (suc n) l = record { producer = id_at l; order = Ring.order_of (ring_at l) (drop 5 l) } ∷ audits_at n (drop 1029 l)

abbrev pub stats_at : List ℕ → Stats
stats_at h = record { enqueued = at 7 h; dequeued = at 8 h; expired = at 9 h; discarded = at 10 h; dispatched = at 11 h }

-- the consumers in use, and the rows after theirs: first the reserved ones, then those that wait on the queue
abbrev pub used_subs : Buffers → List Row
used_subs b = take (at 12 b.head) b.subs

abbrev pub other_rows : Buffers → List Row
other_rows b = drop (sub_rows (used_subs b)) b.rows

-- what the buffers hold
unfoldable pub view : Buffers → Dest
view b = let h = b.head in record {
  kind = kind_of (at 0 h);
  topic_limit = at 1 h;
  call_limit = at 2 h;
  allowance = at 8345 h;
  share = at 8346 h;
  calls_used = at 3 h;
  pending = map entry_of (take (at 16 h) (drop (at 15 h) (other_rows b)));
  subs = subs_at (kind_of (at 0 h)) (used_subs b) b.rows;
  rr = at 4 h;
  producers = ids_at (at 13 h) (drop 17 h);
  audits = audits_at (at 14 h) (drop 113 h);
  stats = stats_at h;
  idle = whether flag (at 5 h) then some (at 6 h) else none;
  reserved = map held_at (take (at 15 h) (other_rows b));
}

-- ---- counts within the tables

unfoldable pub rings_formed : ℕ → List ℕ → Bool
rings_formed zero l = true
rings_formed (suc n) l = Ring.ring_sound (ring_at l) && rings_formed n (drop 1029 l)

-- rows in use: those of the consumers, reserved ones, waiting ones
abbrev pub used_rows : Buffers → ℕ
used_rows b = sub_rows (used_subs b) + (at 15 b.head + at 16 b.head)

-- ---- words in use

-- a mark is 0 or 1
abbrev pub is_mark : ℕ → Bool
is_mark w = leb w 1

-- the words of an entry, in whatever place: persistent, redelivery
unfoldable pub entry_strict : Row → Bool
entry_strict w = is_mark (at 2 w) && is_int (at 5 w)

-- and in flight: freed, tx
unfoldable pub flying_strict : Row → Bool
flying_strict w = entry_strict w && (is_mark (at 7 w) && is_mark (at 8 w))

-- those of a consumer: no local, browser, finished, a pull waits
unfoldable pub words_strict : Row → Bool
words_strict w = every (is_mark (at 5 w) ∷ is_mark (at 6 w) ∷ is_mark (at 7 w) ∷ is_mark (at 10 w) ∷ [])

-- with its rows in flight and those that it holds
unfoldable pub sub_strict : Row → List Row → List Row → Bool
sub_strict w flying held = every (words_strict w ∷ all flying_strict flying ∷ all entry_strict held ∷ [])

-- the consumers, each with its rows
abbrev pub subs_strict : List Row → List Row → Bool
subs_strict ws rows = every (each_sub sub_strict ws rows)

-- consumers, and so many rows after theirs
unfoldable pub tables_strict : ℕ → List Row → List Row → Bool
tables_strict others ws rows = subs_strict ws rows && all entry_strict (take others (drop (sub_rows ws) rows))

-- and the head: kind, idle
unfoldable pub strict : Buffers → Bool
strict b =
    let h = b.head in
    every (is_mark (at 0 h) ∷ is_mark (at 5 h) ∷ tables_strict (at 15 h + at 16 h) (used_subs b) b.rows ∷ [])

unfoldable pub formed : Buffers → Bool
formed b = let h = b.head in every (
    leb (at 12 h) 32
    ∷ leb (at 13 h) 32
    ∷ leb (at 14 h) 8
    ∷ leb (used_rows b) 512
    ∷ rings_formed (at 14 h) (drop 113 h)
    ∷ strict b
    ∷ [])

-- refusal 2 is for buffers that are not sound
unfoldable pub sound_buffers : Buffers → Bool
sound_buffers b = formed b && sound (view b)

-- ---- events

-- the six words of an event: `x` sequence, redelivery, cause; `d` identifier, sequence, redelivery; `n` identifier
unfoldable pub event_words : Event → Row
event_words (letter seq redelivery cause) = 1 ∷ seq ∷ unsigned redelivery ∷ bool_byte cause ∷ 0 ∷ 0 ∷ []
event_words (message i seq redelivery) = 2 ∷ i.conn ∷ unsigned i.session ∷ unsigned i.value ∷ seq ∷ unsigned redelivery ∷ []
event_words (null i) = 3 ∷ i.conn ∷ unsigned i.session ∷ unsigned i.value ∷ 0 ∷ 0 ∷ []

-- ---- a call on lent buffers

-- with an event list of so many events
abbrev pub lengths_of : Buffers → ℕ → Lengths
lengths_of b events = record { head = length b.head; subs = length b.subs; rows = length b.rows; events = events }

-- what a call of the call file gets, and the state that it leaves
unfoldable pub buffer_step : Buffers → ℕ → ℕ → List ℕ → Result
buffer_step b events code ws =
    whether not (short (lengths_of b events)) && (not (eqb code 0) && not (formed b)) then refused 2 (view b)
    else step (lengths_of b events) code ws (view b)

-- what one of the two calls without a code gets
unfoldable pub buffer_call : Buffers → ℕ → Call → Result
buffer_call b events c =
    whether not (short (lengths_of b events)) && not (formed b) then refused 2 (view b)
    else call (lengths_of b events) c (view b)

-- what a query gets: it is lent no event list
unfoldable pub buffer_query : Buffers → Query → Asked
buffer_query b q =
    whether not (state_short (lengths_of b 0)) && not (formed b) then asked 2 0
    else query (lengths_of b 0) q (view b)

unfoldable pub buffer_counters : Buffers → Counted
buffer_counters b =
    whether not (state_short (lengths_of b 0)) && not (formed b) then record { refusal = 2; stats = zero_stats }
    else counters (lengths_of b 0) (view b)

-- a page, into a lent list of so many lines
unfoldable pub buffer_page : Buffers → ℕ → ℕ → ℕ → Page
buffer_page b lines offset limit =
    whether not (state_short (lengths_of b 0) || ltb lines page_max) && not (formed b) then record { refusal = 2; total = 0; lines = [] }
    else page (lengths_of b 0) lines offset limit (view b)

-- ---- before any open

-- buffers of zeros, which a program begins with, and what they hold (specs/Cases.antt computes that)
abbrev pub zero_buffers : Buffers
zero_buffers = lent (replicate 8347 0) (replicate 32 (replicate 16 0)) (replicate 512 (replicate 10 0))

abbrev pub zero_dest : Dest
zero_dest = record {
  kind = queue;
  topic_limit = 0;
  call_limit = 0;
  allowance = 0;
  share = 0;
  calls_used = 0;
  pending = [];
  subs = [];
  rr = 0;
  producers = [];
  audits = [];
  stats = zero_stats;
  idle = none;
  reserved = [];
}

-- opens the definitions of this file
unfoldable pub layout_open : Unit {0}
unfolding sub_at each_sub sub_rows ids_at audits_at view rings_formed entry_strict flying_strict words_strict sub_strict tables_strict strict formed event_words sound_buffers buffer_step buffer_call buffer_query buffer_counters buffer_page
layout_open = tt
