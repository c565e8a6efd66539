-- The scan over a queue's consumers, on the tables: when it can run, what a turn leaves, and what all of it means. Assumes nothing.
use Rattle.std.specs.Prelude.{◌≡◌, Bool, true, false, not, ◌&&◌, List, [], ◌∷◌, ◌++◌, map, ℕ, suc, ◌+◌, ◌≤◌, ◌<◌, ◌^◌, leb, eqb, length, take, drop}
use Rattle.stats.specs.declared.Stats.{Stats}
use Rattle.definition.specs.Base.{all, every}
use Rattle.definition.specs.Types.{Id, Audit, Dest, Event}
use Rattle.definition.specs.Destination.{Out, visit, rounds}
use Rattle.definition.specs.Words.{at}
use Rattle.definition.specs.Layout.{Row, sub_rows, event_words}
use Rattle.consumers.specs.Consumers.{row_sub, credit_of}
use Rattle.consumers.specs.Table.{next_fits}
use Rattle.state.specs.declared.Head.{Head}
use Rattle.state.specs.State.{head_view, strict_tables}

-- all the scans: at most one for each waiting entry, and a last one
unfoldable pub served : ℕ → Dest → Out
served by t = rounds (suc (length t.pending)) by t

-- no browser, and with credit: else a consumer's turn leaves everything as it is
abbrev pub can_take : Row → Bool
can_take w = not (row_sub w).browser && credit_of (row_sub w)

-- ---- when it can run

-- the tables are long enough, the counts within them, and there is room for an event for each waiting entry
abbrev pub scan_tables : Head → ℕ → ℕ → ℕ → Bool
scan_tables d subs rows events = every (
    leb 32 subs
    ∷ leb 512 rows
    ∷ leb d.consumers 32
    ∷ leb d.turn 32
    ∷ leb (d.events + d.waiting) events
    ∷ [])

-- the counters that rise have room for a full table
abbrev pub scan_counters : Stats → Bool
scan_counters s = leb (s.expired + 512) (2 ^ 63) && leb (s.dispatched + 512) (2 ^ 63)

-- the rows in use are those of the consumers, reserved and waiting ones
abbrev pub rows_fit : List Row → Head → Bool
rows_fit subs d = leb d.used 512 && eqb (sub_rows (take d.consumers subs) + (d.reserved + d.waiting)) d.used

-- of a queue, with such a clock, on a table of consumers, with so many rows and events
unfoldable pub scans : ℕ → List Row → Head → ℕ → ℕ → Bool
scans by subs d rows events = every (
    leb by (2 ^ 62)
    ∷ d.queue
    ∷ scan_tables d (length subs) rows events
    ∷ scan_counters d.stats
    ∷ rows_fit subs d
    ∷ all next_fits (take d.consumers subs)
    ∷ [])

-- the same as facts, apart from the clock; a consumer's next delivery number has room for what waits
abbrev pub next_room : ℕ → Row → Bool
next_room k w = leb (at 8 w + k) (2 ^ 63)

pub record Scans (subs : List Row) (d : Head) (nrows nevents : ℕ) : Type 0 where
  pub queue : d.queue ≡ true
  pub consumers : d.consumers ≤ 32
  pub subs-long : 32 ≤ length subs
  pub rows-used : sub_rows (take d.consumers subs) + (d.reserved + d.waiting) ≡ d.used
  pub used : d.used ≤ 512
  pub rows_long : 512 ≤ nrows
  pub events : d.events + d.waiting ≤ nevents
  pub expired : d.stats.expired + d.waiting ≤ 2 ^ 63
  pub dispatched : d.stats.dispatched + d.waiting ≤ 2 ^ 63
  pub turn : d.turn ≤ 32
  pub next : all (next_room d.waiting) (take d.consumers subs) ≡ true

-- ---- what it leaves

-- the numbers go only so far, strict words stay strict, and what is no part of the state, or not sent, is as it was. Open beside `Leaves`: free
-- rows (up to 512), consumers past their count (up to 32), words not in use, and how words that were not strict are written. They may hold any
-- words, and no view depends on them
pub record Onward (d r : Head) (subs rows events subs' rows' events' : List Row) : Type 0 where
  pub consumers : r.consumers ≡ d.consumers
  pub producers : r.producers ≡ d.producers
  pub audits : r.audits ≡ d.audits
  pub reserved : r.reserved ≡ d.reserved
  pub queue : r.queue ≡ d.queue
  pub allowance : r.allowance ≡ d.allowance
  pub share : r.share ≡ d.share
  pub waiting : r.waiting ≤ d.waiting
  pub used : r.used ≤ d.used
  pub more : d.events ≤ r.events
  pub room : r.events + r.waiting ≤ d.events + d.waiting
  pub expired : r.stats.expired + r.waiting ≤ d.stats.expired + d.waiting
  pub dispatched : r.stats.dispatched + r.waiting ≤ d.stats.dispatched + d.waiting
  pub strict : strict_tables d subs rows ≡ true → strict_tables r subs' rows' ≡ true
  pub later : drop r.events events' ≡ drop r.events events
  pub subs-past : drop 32 subs' ≡ drop 32 subs
  pub rows-past : drop 512 rows' ≡ drop 512 rows
  pub subs-length : length subs' ≡ length subs
  pub rows-length : length rows' ≡ length rows
  pub events-length : length events' ≡ length events

-- consumer i's turn: the definition's, with these events, whatever the producers and audits; open is what `Onward` leaves open
pub record Visited (by i : ℕ) (d : Head) (took : Bool) (r : Head) (subs rows events subs' rows' events' : List Row) : Type 0 where
  pub sends : List Event
  pub says : (producers : List Id) (audits : List Audit) → visit by i (head_view d subs rows producers audits) ≡ record { took = took; dest = head_view r subs' rows' producers audits; events = sends }
  pub sent : take r.events events' ≡ take d.events events ++ map event_words sends
  pub quiet : took ≡ false → sends ≡ []
  pub less : took ≡ true → r.waiting < d.waiting
  pub turn : took ≡ false → r.turn ≡ d.turn
  pub scans : Scans subs' r (length rows') (length events')
  pub onward : Onward d r subs rows events subs' rows' events'
