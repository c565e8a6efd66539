-- The queries: they use no call and change nothing. Assumes nothing.
use Rattle.std.specs.Prelude.{ℕ, ◌+◌, ◌-◌, ◌/◌, min, Bool, true, false, not, ◌&&◌, ◌||◌, List, [], ◌∷◌, map, leb, ltb, length, take, drop, ℤ, pos}
use Rattle.std.proofs.Math.Option.{Option, none, some}
use Rattle.std.specs.Int.Signed.{lt_z}
use Rattle.definition.specs.Base.{whether◌then◌else◌, all, empty, nth, member, is_some}
use Rattle.definition.specs.Types.{Kind, queue, topic, Entry, Sub, Stats, Dest}
use Rattle.definition.specs.Consumer.{zero_stats}
use Rattle.definition.specs.Destination.{held_rows}
use Rattle.definition.specs.Calls.{Lengths, state_short, clock_ok, seqs, all_rows, sound}

-- Dest::is_queue
abbrev pub is_queue : Kind → Bool
is_queue queue = true
is_queue topic = false

-- Dest::has_consumers
abbrev pub has_consumers : Dest → Bool
has_consumers t = not (empty t.subs)

-- an entry with an expiration is in `expiry` or `texpiry`
abbrev pub expiring : Entry → Bool
expiring e = lt_z (pos 0) e.expiration

-- Dest::has_expiring: `!expiry.is_empty() || subs.any(|s| !s.texpiry.is_empty())`
unfoldable pub has_expiring : Dest → Bool
has_expiring t = not (all (λ e. not (expiring e)) t.pending && all (λ s. all (λ e. not (expiring e)) (Sub.tpending s)) t.subs)

-- idle_since.elapsed().as_secs(): the call's clock less the mark, in whole seconds; 0 if the clock went back
abbrev pub idle_seconds : ℕ → Option ℕ → ℕ
idle_seconds now none = 0
idle_seconds now (some mark) = (now - mark) / 1000

-- Dest::idle_for
unfoldable pub idle_for : ℕ → ℕ → Dest → Bool
idle_for now secs t =
    empty t.pending && (empty t.subs && (empty t.producers && (is_some t.idle && leb secs (idle_seconds now t.idle))))

-- Dest::message_count: waiting and in flight, of all consumers
abbrev pub message_count : Dest → ℕ
message_count t = length t.pending + held_rows t.subs

-- document 02 §3: the bytes of these rows, each sequence number once, with its last copy's size; sound rows agree on it
abbrev pub bytes_of : List Entry → ℕ
bytes_of [] = 0
bytes_of (e ∷ es) = (whether member e.seq (seqs es) then 0 else e.size) + bytes_of es

-- the bytes that a destination holds
abbrev pub bytes_held : Dest → ℕ
bytes_held t = bytes_of (all_rows t)

-- Dest::seq_at: the number of the entry at a place, 0 for none
abbrev pub seq_of : Option Entry → ℕ
seq_of none = 0
seq_of (some e) = e.seq

abbrev pub seq_at : ℕ → Dest → ℕ
seq_at index t = seq_of (nth index t.pending)

-- PAGE_MAX
abbrev pub page_max : ℕ
page_max = 50

-- Dest::page: how many wait, and those of the page
abbrev pub page_entries : ℕ → ℕ → Dest → List Entry
page_entries offset limit t = take (min limit page_max) (drop offset t.pending)

-- a page's line
pub record Line : Type 0 where
  pub seq : ℕ
  pub expiration : ℤ
  pub redelivery : ℤ

abbrev pub line_of : Entry → Line
line_of e = record { seq = e.seq; expiration = e.expiration; redelivery = e.redelivery }

-- ---- refusals

-- the refusal (0: answered) and the answer
pub record Asked : Type 0 where
  pub refusal : ℕ
  pub answer : ℕ

-- 1, 2 and 3, in the order of their places: whether a lent buffer is short, and whether the arguments are in their ranges
unfoldable pub query_refusal : Bool → Bool → Dest → ℕ
query_refusal short in_range t = whether short then 1 else whether not (sound t) then 2 else whether in_range then 0 else 3

-- beside a refusal the answer is 0
abbrev pub asked : ℕ → ℕ → Asked
asked refusal answer = record { refusal = refusal; answer = whether leb refusal 0 then answer else 0 }

abbrev pub number : Bool → ℕ
number b = whether b then 1 else 0

pub data Query : Type 0 where
  of_kind consumers expirations messages bytes : Query
  idle : ℕ → ℕ → Query  -- clock, seconds
  sequence : ℕ → Query  -- index

abbrev pub query_ok : Query → Bool
query_ok of_kind = true
query_ok consumers = true
query_ok expirations = true
query_ok messages = true
query_ok bytes = true
query_ok (idle now secs) = clock_ok now
query_ok (sequence index) = true

abbrev pub answer_of : Dest → Query → ℕ
answer_of t of_kind = number (is_queue t.kind)
answer_of t consumers = number (has_consumers t)
answer_of t expirations = number (has_expiring t)
answer_of t messages = message_count t
answer_of t bytes = bytes_held t
answer_of t (idle now secs) = number (idle_for now secs t)
answer_of t (sequence index) = seq_at index t

-- a query on lent buffers of these lengths
unfoldable pub query : Lengths → Query → Dest → Asked
query lent q t = asked (query_refusal (state_short lent) (query_ok q) t) (answer_of t q)

-- the counters; beside a refusal they are 0
pub record Counted : Type 0 where
  pub refusal : ℕ
  pub stats : Stats

unfoldable pub counters : Lengths → Dest → Counted
counters lent t =
    let r = query_refusal (state_short lent) true t in
    record { refusal = r; stats = whether leb r 0 then t.stats else zero_stats }

-- a page, into a lent list of so many lines: how many wait, and the lines written
pub record Page : Type 0 where
  pub refusal : ℕ
  pub total : ℕ
  pub lines : List Line

unfoldable pub page : Lengths → ℕ → ℕ → ℕ → Dest → Page
page lent lines offset limit t =
    let r = query_refusal (state_short lent || ltb lines page_max) true t in
    whether leb r 0 then record { refusal = 0; total = length t.pending; lines = map line_of (page_entries offset limit t) }
    else record { refusal = r; total = 0; lines = [] }

-- opens the definitions of this file
unfoldable pub queries_open : Unit {0}
unfolding has_expiring idle_for query_refusal query counters page
queries_open = tt
