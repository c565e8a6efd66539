-- The tables with a gap: rows that no count of the head takes in, before the waiting ones. What stands around the gap is a destination, and
-- the first row of the gap goes to a place in it. Assumes nothing.
use Rattle.std.specs.Prelude.{◌≡◌, true, List, ◌++◌, map, ℕ, ◌+◌, ◌-◌, ◌≤◌, ◌<◌, ◌^◌, length, take, drop, ℤ}
use Rattle.std.proofs.Math.Option.{none, some}
use Rattle.std.proofs.Math.Seq.{slice}
use Rattle.entry.specs.Entry.{entry_of}
use Rattle.definition.specs.Base.{whether◌then◌else◌, all}
use Rattle.definition.specs.Types.{Id, Entry, Audit, Dest}
use Rattle.definition.specs.Destination.{insert}
use Rattle.definition.specs.Words.{kind_by}
use Rattle.definition.specs.Layout.{Row, inflight_at, held_at, subs_at, sub_rows, entry_strict, subs_strict}
use Rattle.state.specs.declared.Head.{Head}
use Rattle.state.specs.State.{with_waiting, with_used, first_waiting}
use Rattle.returns.specs.Returns.{gives_all}

-- the destination of these rows before the waiting ones, and of these waiting ones
unfoldable pub gap_dest : Head → List Row → List Row → List Row → List Id → List Audit → Dest
gap_dest d subs low waits producers audits = record {
  kind = kind_by d.queue;
  topic_limit = d.topic_limit;
  call_limit = d.call_limit;
  allowance = d.allowance;
  share = d.share;
  calls_used = d.calls_used;
  pending = map entry_of waits;
  subs = subs_at (kind_by d.queue) (take d.consumers subs) low;
  rr = d.turn;
  producers = producers;
  audits = audits;
  stats = d.stats;
  idle = whether d.idle then some d.idle_since else none;
  reserved = map held_at (drop (sub_rows (take d.consumers subs)) low);
}

-- the first n rows without k of them from a place on
abbrev pub cut : ℕ → ℕ → ℕ → List Row → List Row
cut from k n rows = take from rows ++ slice (from + k) n rows

-- the waiting rows
abbrev pub waiting_in : Head → List Row → List Row
waiting_in d rows = slice (first_waiting d) d.used rows

-- the destination around a gap of k rows
abbrev pub around : ℕ → ℕ → Head → List Row → List Row → List Id → List Audit → Dest
around from k d subs rows producers audits = gap_dest d subs (cut from k (first_waiting d) rows) (waiting_in d rows) producers audits

-- of n consumers, these rows before the waiting ones and these waiting ones, the words in use are strict
pub record GapStrict (n : ℕ) (ws low high : List Row) : Type 0 where
  pub subs : subs_strict (take n ws) low ≡ true
  pub reserved : all entry_strict (drop (sub_rows (take n ws)) low) ≡ true
  pub waits : all entry_strict high ≡ true

-- and around a gap of k rows
abbrev pub StrictAround : ℕ → ℕ → Head → List Row → List Row → Type 0
StrictAround from k d subs rows = GapStrict d.consumers subs (cut from k (first_waiting d) rows) (waiting_in d rows)

-- a row before the waiting ones, and numbers that do not run out
pub record Open (from : ℕ) (d : Head) (rows : ℕ) : Type 0 where
  pub before : from + d.waiting < d.used
  pub consumers : d.consumers ≤ 32
  pub used : d.used ≤ 512
  pub long : 512 ≤ rows
  pub expired : d.stats.expired + d.used ≤ 2 ^ 62 + 512

-- the second head's counts of rows and counters, and the rest of the first
abbrev pub settled : Head → Head → Head
settled d r = record {
  topic_limit = d.topic_limit;
  call_limit = d.call_limit;
  allowance = d.allowance;
  share = d.share;
  calls_used = d.calls_used;
  turn = d.turn;
  idle_since = d.idle_since;
  stats = r.stats;
  consumers = d.consumers;
  producers = d.producers;
  audits = d.audits;
  reserved = r.reserved;
  waiting = r.waiting;
  used = r.used;
  events = d.events;
  queue = d.queue;
  idle = d.idle;
}

-- the row at a place has gone to its number's place among the waiting ones, as e
pub record Placed (from : ℕ) (e : Entry) (d r : Head) (rows rows' : List Row) : Type 0 where
  pub low : take (first_waiting d - 1) rows' ≡ cut from 1 (first_waiting d) rows
  pub waits : map entry_of (slice (first_waiting d - 1) r.used rows') ≡ insert e (map entry_of (waiting_in d rows))
  pub strict : all entry_strict (waiting_in d rows) ≡ true → all entry_strict (slice (first_waiting d - 1) r.used rows') ≡ true
  pub head : r ≡ with_waiting r.waiting (with_used r.used d)
  pub counts : r.used + d.waiting + 1 ≡ d.used + r.waiting
  pub used : r.used ≤ d.used
  pub waiting : r.waiting ≤ r.used
  pub past : drop 512 rows' ≡ drop 512 rows
  pub size : length rows' ≡ length rows

-- what stays while rows of a gap go: the rest of the head, how many rows the consumers have, what is past the tables
pub record Same (d r : Head) (subs rows subs' rows' : List Row) : Type 0 where
  pub head : r ≡ settled d r
  pub used : r.used ≤ d.used
  pub own : sub_rows (take d.consumers subs') ≡ sub_rows (take d.consumers subs)
  pub subs-past : drop 32 subs' ≡ drop 32 subs
  pub subs-length : length subs' ≡ length subs
  pub rows-past : drop 512 rows' ≡ drop 512 rows
  pub rows-length : length rows' ≡ length rows

-- the first row of a gap is gone from it: the destination around the gap is as f has it, and the rows before the waiting ones have closed up
pub record Moves (from : ℕ) (f : Dest → Dest) (d r : Head) (subs rows subs' rows' : List Row) : Type 0 where
  pub view : (k : ℕ) (producers : List Id) (audits : List Audit) → 0 < k → from + (k + d.waiting) ≤ d.used
      → sub_rows (take d.consumers subs) + (d.reserved + (d.waiting + k)) ≡ d.used
      → around from (k - 1) r subs' rows' producers audits ≡ f (around from k d subs rows producers audits)
  pub strict : (k : ℕ) → 0 < k → from + (k + d.waiting) ≤ d.used → sub_rows (take d.consumers subs) + (d.reserved + (d.waiting + k)) ≡ d.used
      → StrictAround from k d subs rows → StrictAround from (k - 1) r subs' rows'
  pub low : take (first_waiting d - 1) rows' ≡ cut from 1 (first_waiting d) rows
  pub same : Same d r subs rows subs' rows'
  pub counts : r.used + (d.reserved + (d.waiting + 1)) ≡ d.used + (r.reserved + r.waiting)
  pub reserved : d.reserved ≤ r.reserved
  pub waiting : r.waiting ≤ r.used
  pub expired : r.stats.expired + r.used ≤ d.stats.expired + d.used

-- a gap of k rows among those of the consumers and the reserved ones
pub record Gap (from k : ℕ) (d : Head) (subs rows : List Row) : Type 0 where
  pub sum : sub_rows (take d.consumers subs) + (d.reserved + (d.waiting + k)) ≡ d.used
  pub low : from ≤ sub_rows (take d.consumers subs) + d.reserved
  pub consumers : d.consumers ≤ 32
  pub used : d.used ≤ 512
  pub long : 512 ≤ length rows
  pub expired : d.stats.expired + d.used ≤ 2 ^ 62 + 512

-- all rows of a gap have gone as a leaving consumer's do
pub record GaveBack (now : ℕ) (last : ℤ) (j : Id) (from k : ℕ) (d r : Head) (subs rows subs' rows' : List Row) : Type 0 where
  pub view : (producers : List Id) (audits : List Audit)
      → around from 0 r subs' rows' producers audits ≡ gives_all now last j (map inflight_at (slice from (from + k) rows)) (around from k d subs rows producers audits)
  pub strict : StrictAround from k d subs rows → StrictAround from 0 r subs' rows'
  pub gap : Gap from 0 r subs' rows'
  pub same : Same d r subs rows subs' rows'
