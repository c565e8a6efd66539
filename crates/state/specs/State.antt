-- The destination's own numbers by value, and the head's words that hold them. Assumes nothing.
use Rattle.std.specs.Prelude.{ℕ, ◌+◌, ◌-◌, min, Bool, true, false, ◌&&◌, List, [], ◌∷◌, ◌++◌, map, eqb, ltb, length, take, drop, set}
use Rattle.std.proofs.Math.Option.{none, some}
use mir.Val.{bool_byte}
use Rattle.words.specs.Pick.{whether◌then◌else◌}
use Rattle.entry.specs.Entry.{entry_of}
use Rattle.definition.specs.Types.{Id, Audit, Dest}
use Rattle.definition.specs.Consumer.{zero_stats}
use Rattle.definition.specs.Words.{at}
pub use Rattle.definition.specs.Words.{kind_by}
use Rattle.definition.specs.Layout.{Row, flag, held_at, subs_at, sub_rows, stats_at, tables_strict}
use Rattle.stats.specs.declared.Stats.{Stats}
use Rattle.state.specs.declared.Head.{Head}
use Rattle.state.specs.Answers.{Replied}

-- the head's first 17 words and its last two, by value, with so many rows in use
unfoldable pub head_of : List ℕ → ℕ → Head
head_of h used = record {
  topic_limit = at 1 h;
  call_limit = at 2 h;
  allowance = at 8345 h;
  share = at 8346 h;
  calls_used = at 3 h;
  turn = at 4 h;
  idle_since = at 6 h;
  stats = stats_at h;
  consumers = at 12 h;
  producers = at 13 h;
  audits = at 14 h;
  reserved = at 15 h;
  waiting = at 16 h;
  used = used;
  events = 0;
  queue = eqb (at 0 h) 0;
  idle = flag (at 5 h);
}

-- the rows in use: those of the consumers, reserved ones, waiting ones; 513 for more than 512
abbrev pub used_of : List ℕ → List Row → ℕ
used_of h subs = min 513 (sub_rows (take (at 12 h) subs) + (at 15 h + at 16 h))

-- what a short head is taken for
abbrev pub no_head : Head
no_head = record {
  topic_limit = 0;
  call_limit = 0;
  allowance = 0;
  share = 0;
  calls_used = 0;
  turn = 0;
  idle_since = 0;
  stats = zero_stats;
  consumers = 0;
  producers = 0;
  audits = 0;
  reserved = 0;
  waiting = 0;
  used = 0;
  events = 0;
  queue = true;
  idle = false;
}

-- the numbers of a head and a table of consumers
unfoldable pub loaded : List ℕ → List Row → Head
loaded h subs = whether ltb (length h) 8347 then no_head else head_of h (used_of h subs)

-- the kind's word: 0 for a queue, 1 for a topic
abbrev pub kind_word : Bool → ℕ
kind_word true = 0
kind_word false = 1

-- and back, the first 17
unfoldable pub head_words : Head → List ℕ
head_words d =
    kind_word d.queue ∷ d.topic_limit ∷ d.call_limit ∷ d.calls_used ∷ d.turn ∷ bool_byte d.idle ∷ d.idle_since
    ∷ d.stats.enqueued ∷ d.stats.dequeued ∷ d.stats.expired ∷ d.stats.discarded ∷ d.stats.dispatched
    ∷ d.consumers ∷ d.producers ∷ d.audits ∷ d.reserved ∷ d.waiting ∷ []

-- the destination that these numbers are, with the tables of consumers and rows, the producers and the audits: `view` of the definitions, by value
unfoldable pub head_view : Head → List Row → List Row → List Id → List Audit → Dest
head_view d subs rows producers audits =
    let used = take d.consumers subs in
    let others = drop (sub_rows used) rows in
    record {
      kind = kind_by d.queue;
      topic_limit = d.topic_limit;
      call_limit = d.call_limit;
      allowance = d.allowance;
      share = d.share;
      calls_used = d.calls_used;
      pending = map entry_of (take d.waiting (drop d.reserved others));
      subs = subs_at (kind_by d.queue) used rows;
      rr = d.turn;
      producers = producers;
      audits = audits;
      stats = d.stats;
      idle = whether d.idle then some d.idle_since else none;
      reserved = map held_at (take d.reserved others);
    }

-- the words in use of the tables are strict
abbrev pub strict_tables : Head → List Row → List Row → Bool
strict_tables d subs rows = tables_strict (d.reserved + d.waiting) (take d.consumers subs) rows

-- ---- the numbers, one changed

abbrev pub with_used_calls : ℕ → Head → Head
with_used_calls x d = record { topic_limit = d.topic_limit; call_limit = d.call_limit; allowance = d.allowance; share = d.share; calls_used = x; turn = d.turn; idle_since = d.idle_since; stats = d.stats; consumers = d.consumers; producers = d.producers; audits = d.audits; reserved = d.reserved; waiting = d.waiting; used = d.used; events = d.events; queue = d.queue; idle = d.idle }

abbrev pub with_counters : Stats → Head → Head
with_counters x d = record { topic_limit = d.topic_limit; call_limit = d.call_limit; allowance = d.allowance; share = d.share; calls_used = d.calls_used; turn = d.turn; idle_since = d.idle_since; stats = x; consumers = d.consumers; producers = d.producers; audits = d.audits; reserved = d.reserved; waiting = d.waiting; used = d.used; events = d.events; queue = d.queue; idle = d.idle }

abbrev pub with_turn : ℕ → Head → Head
with_turn x d = record { topic_limit = d.topic_limit; call_limit = d.call_limit; allowance = d.allowance; share = d.share; calls_used = d.calls_used; turn = x; idle_since = d.idle_since; stats = d.stats; consumers = d.consumers; producers = d.producers; audits = d.audits; reserved = d.reserved; waiting = d.waiting; used = d.used; events = d.events; queue = d.queue; idle = d.idle }

abbrev pub with_consumers : ℕ → Head → Head
with_consumers x d = record { topic_limit = d.topic_limit; call_limit = d.call_limit; allowance = d.allowance; share = d.share; calls_used = d.calls_used; turn = d.turn; idle_since = d.idle_since; stats = d.stats; consumers = x; producers = d.producers; audits = d.audits; reserved = d.reserved; waiting = d.waiting; used = d.used; events = d.events; queue = d.queue; idle = d.idle }

abbrev pub with_producer_count : ℕ → Head → Head
with_producer_count x d = record { topic_limit = d.topic_limit; call_limit = d.call_limit; allowance = d.allowance; share = d.share; calls_used = d.calls_used; turn = d.turn; idle_since = d.idle_since; stats = d.stats; consumers = d.consumers; producers = x; audits = d.audits; reserved = d.reserved; waiting = d.waiting; used = d.used; events = d.events; queue = d.queue; idle = d.idle }

abbrev pub with_audit_count : ℕ → Head → Head
with_audit_count x d = record { topic_limit = d.topic_limit; call_limit = d.call_limit; allowance = d.allowance; share = d.share; calls_used = d.calls_used; turn = d.turn; idle_since = d.idle_since; stats = d.stats; consumers = d.consumers; producers = d.producers; audits = x; reserved = d.reserved; waiting = d.waiting; used = d.used; events = d.events; queue = d.queue; idle = d.idle }

abbrev pub with_reserved_count : ℕ → Head → Head
with_reserved_count x d = record { topic_limit = d.topic_limit; call_limit = d.call_limit; allowance = d.allowance; share = d.share; calls_used = d.calls_used; turn = d.turn; idle_since = d.idle_since; stats = d.stats; consumers = d.consumers; producers = d.producers; audits = d.audits; reserved = x; waiting = d.waiting; used = d.used; events = d.events; queue = d.queue; idle = d.idle }

abbrev pub with_waiting : ℕ → Head → Head
with_waiting x d = record { topic_limit = d.topic_limit; call_limit = d.call_limit; allowance = d.allowance; share = d.share; calls_used = d.calls_used; turn = d.turn; idle_since = d.idle_since; stats = d.stats; consumers = d.consumers; producers = d.producers; audits = d.audits; reserved = d.reserved; waiting = x; used = d.used; events = d.events; queue = d.queue; idle = d.idle }

abbrev pub with_used : ℕ → Head → Head
with_used x d = record { topic_limit = d.topic_limit; call_limit = d.call_limit; allowance = d.allowance; share = d.share; calls_used = d.calls_used; turn = d.turn; idle_since = d.idle_since; stats = d.stats; consumers = d.consumers; producers = d.producers; audits = d.audits; reserved = d.reserved; waiting = d.waiting; used = x; events = d.events; queue = d.queue; idle = d.idle }

abbrev pub with_events : ℕ → Head → Head
with_events x d = record { topic_limit = d.topic_limit; call_limit = d.call_limit; allowance = d.allowance; share = d.share; calls_used = d.calls_used; turn = d.turn; idle_since = d.idle_since; stats = d.stats; consumers = d.consumers; producers = d.producers; audits = d.audits; reserved = d.reserved; waiting = d.waiting; used = d.used; events = x; queue = d.queue; idle = d.idle }

-- the idle mark, and its clock
abbrev pub with_idle_mark : Bool → ℕ → Head → Head
with_idle_mark b x d = record { topic_limit = d.topic_limit; call_limit = d.call_limit; allowance = d.allowance; share = d.share; calls_used = d.calls_used; turn = d.turn; idle_since = x; stats = d.stats; consumers = d.consumers; producers = d.producers; audits = d.audits; reserved = d.reserved; waiting = d.waiting; used = d.used; events = d.events; queue = d.queue; idle = b }

-- `idle_since = None`
abbrev pub not_idle : Head → Head
not_idle d = with_idle_mark false 0 d

-- `touch_idle`
unfoldable pub touched : ℕ → Head → Head
touched now d =
    whether eqb d.waiting 0 && (eqb d.consumers 0 && eqb d.producers 0) then (whether d.idle then d else with_idle_mark true now d)
    else not_idle d

-- the clock that entries expire by
abbrev pub due_by : ℕ → Head → ℕ
due_by now d = now - d.allowance

-- ---- what a call leaves

abbrev pub refused_as : ℕ → Head → Replied
refused_as k d = record { refusal = k; answer = 0; head = d }

abbrev pub done_as : ℕ → Head → Replied
done_as a d = record { refusal = 0; answer = a; head = d }

-- ---- places

-- where the waiting rows begin, and the reserved ones before them
abbrev pub first_waiting : Head → ℕ
first_waiting d = d.used - d.waiting

abbrev pub first_reserved : Head → ℕ
first_reserved d = d.used - d.waiting - d.reserved

abbrev pub rows_free : Head → ℕ
rows_free d = 512 - d.used

-- ---- what is written

-- to a head of full size the first 17 words, and the last two
unfoldable pub stored_head : Head → List ℕ → List ℕ
stored_head d h = whether ltb (length h) 8347 then h else set (set (head_words d ++ drop 17 h) 8345 d.allowance) 8346 d.share

-- an event is appended, where there is room
unfoldable pub pushed : Head → ℕ → Head
pushed d room = whether ltb d.events room then with_events (d.events + 1) d else d
