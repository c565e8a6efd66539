-- One browser on the tables: the rows about it, what the definition makes of them, and what its numbers do while it is served.
-- Assumes nothing.
use Rattle.std.specs.Prelude.{◌≡◌, true, false, List, ◌++◌, map, ℕ, ◌+◌, ◌-◌, ◌≤◌, ◌<◌, ◌^◌, length, take, drop}
use Rattle.stats.specs.declared.Stats.{Stats}
use Rattle.stats.specs.Counted.{with_expired_by}
use Rattle.entry.specs.Entry.{entry_of}
use Rattle.definition.specs.Types.{Entry, queue}
use Rattle.definition.specs.Types as Def
use Rattle.definition.specs.Consumer.{◌⊕◌, Browse, dispatch_browser}
use Rattle.definition.specs.Base.{all}
use Rattle.definition.specs.Layout.{Row, event_words, entry_strict}
use Rattle.table.specs.Table.{has_seq, remove_rows, removed_rows}
use Rattle.consumers.specs.declared.Sub.{Sub}
use Rattle.consumers.specs.Consumers.{sub_view}
use Rattle.consumers.specs.Seats.{OwnStrict}
use Rattle.state.specs.declared.Head.{Head}
use Rattle.state.specs.State.{first_waiting, with_counters, with_waiting, with_used}
use Rattle.state.specs.Parts.{Parts, parts_of, head_moved}

-- ---- an expired entry that still waits

-- how many of the waiting rows have a sequence number, and the table without them
abbrev pub gone_rows : ℕ → Head → List Row → ℕ
gone_rows seq d rows = removed_rows (has_seq seq) (first_waiting d) d.used d.used rows

abbrev pub left_rows : ℕ → Head → List Row → List Row
left_rows seq d rows = remove_rows (has_seq seq) (first_waiting d) d.used d.used rows

-- so many of them have gone, and are counted as expired
abbrev pub dropped : ℕ → Head → Head
dropped k d = with_counters (with_expired_by d.stats k) (with_waiting (d.waiting - k) (with_used (d.used - k) d))

-- ---- one browser

-- a browser, the rows before its own, those between its own and the waiting ones, what waits, the counters and the events so far
pub record Shown : Type 0 where
  pub before : List Row
  pub sub : Def.Sub
  pub after : List Row
  pub pending : List Entry
  pub stats : Stats
  pub events : List Row

-- of the rows after its own the first m are others', and the rest wait on the queue
abbrev pub showing : ℕ → Sub → Stats → List Row → Parts → Shown
showing m s stats events p = record {
  before = p.before;
  sub = sub_view queue s p.flying p.held;
  after = take m p.after;
  pending = map entry_of (drop m p.after);
  stats = stats;
  events = events;
}

-- its rows begin at base
unfoldable pub shown_at : ℕ → ℕ → Sub → Head → List Row → List Row → Shown
shown_at base m s d rows events = showing m s d.stats (take d.events events) (parts_of base s.inflight s.held d.used rows)

-- with what serving it leaves
abbrev pub browser_stepped : Browse → Shown → Shown
browser_stepped b v = record {
  before = v.before;
  sub = b.sub;
  after = v.after;
  pending = b.pending;
  stats = v.stats ⊕ b.counts;
  events = v.events ++ map event_words b.events;
}

abbrev pub browser_ran : ℕ → Shown → Shown
browser_ran by v = browser_stepped (dispatch_browser by v.pending v.sub) v

-- the closing null has been sent
abbrev pub closed_sub : Sub → Sub
closed_sub s = record {
  conn = s.conn;
  session = s.session;
  value = s.value;
  prefetch = s.prefetch;
  selector = s.selector;
  next_dseq = s.next_dseq;
  cursor = s.cursor;
  pull = 0;
  generation = s.generation;
  freed = s.freed;
  inflight = s.inflight;
  held = s.held;
  no_local = s.no_local;
  browser = s.browser;
  finished = true;
  pulling = false;
}

-- ---- its numbers

-- the rows between its own and the waiting ones
abbrev pub rows_between : ℕ → Sub → Head → ℕ
rows_between base s d = d.used - (base + s.inflight + s.held + d.waiting)

-- the counts lie within the tables, and no number runs out
pub record BrowserFine (nrows nevents base : ℕ) (s : Sub) (d : Head) (by : ℕ) : Type 0 where
  pub browser : s.browser ≡ true
  pub rows : base + s.inflight + s.held + d.waiting ≤ d.used
  pub used : d.used ≤ 512
  pub room : 512 ≤ nrows
  pub events : d.events + s.held < nevents
  pub next : s.next_dseq + s.held < 2 ^ 63
  pub expired : d.stats.expired + d.waiting < 2 ^ 63
  pub clock : by ≤ 2 ^ 62

-- what the numbers do while it is served, with m rows between its own and the waiting ones
pub record BrowserKept (base m : ℕ) (s : Sub) (d : Head) (t : Sub) (r : Head) : Type 0 where
  pub rows : base + t.inflight + t.held + m + r.waiting ≡ r.used
  pub used : r.used ≤ d.used
  pub own : t.inflight + t.held ≤ s.inflight + s.held
  pub sent : d.events ≤ r.events
  pub next : t.next_dseq + t.held ≤ s.next_dseq + s.held
  pub waiting : r.waiting ≤ d.waiting
  pub expired : r.stats.expired + r.waiting ≡ d.stats.expired + d.waiting
  pub dispatched : r.stats.dispatched ≡ d.stats.dispatched
  pub head : r ≡ with_waiting r.waiting (head_moved d r)

-- the words in use of its rows and of those that wait are strict, with m rows between them
pub record BrowserStrict (base m : ℕ) (s : Sub) (d : Head) (rows : List Row) : Type 0 where
  pub own : OwnStrict base s.inflight s.held rows
  pub waiting : all entry_strict (drop m (parts_of base s.inflight s.held d.used rows).after) ≡ true

-- while its snapshot is sent: the definition says the same of what is there now as of what was there
pub record Sending (by base : ℕ) (rows₀ events₀ : List Row) (s₀ : Sub) (d₀ : Head) (rows events : List Row) (s : Sub) (d : Head) : Type 0 where
  pub fine : BrowserFine (length rows) (length events) base s d by
  pub same_rows : length rows ≡ length rows₀
  pub same-events : length events ≡ length events₀
  pub said : browser_ran by (shown_at base (rows_between base s₀ d₀) s d rows events) ≡ browser_ran by (shown_at base (rows_between base s₀ d₀) s₀ d₀ rows₀ events₀)
  pub later : drop d.events events ≡ drop d.events events₀
  pub past : drop d₀.used rows ≡ drop d₀.used rows₀
  pub kept : BrowserKept base (rows_between base s₀ d₀) s₀ d₀ s d
  pub few : d.events + s.held ≤ d₀.events + s₀.held
  pub strict : BrowserStrict base (rows_between base s₀ d₀) s₀ d₀ rows₀ → BrowserStrict base (rows_between base s₀ d₀) s d rows

-- when it is served: it is as the definition has it
pub record Done (by base : ℕ) (rows₀ events₀ : List Row) (s₀ : Sub) (d₀ : Head) (rows events : List Row) (s : Sub) (d : Head) : Type 0 where
  pub said : shown_at base (rows_between base s₀ d₀) s d rows events ≡ browser_ran by (shown_at base (rows_between base s₀ d₀) s₀ d₀ rows₀ events₀)
  pub later : drop d.events events ≡ drop d.events events₀
  pub past : drop d₀.used rows ≡ drop d₀.used rows₀
  pub kept : BrowserKept base (rows_between base s₀ d₀) s₀ d₀ s d
  pub few : d.events + s.held ≤ d₀.events + s₀.held + 1
  pub strict : BrowserStrict base (rows_between base s₀ d₀) s₀ d₀ rows₀ → BrowserStrict base (rows_between base s₀ d₀) s d rows
