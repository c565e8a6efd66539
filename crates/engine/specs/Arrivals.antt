-- What is known when an entry arrives and when it is stored, and what storing it leaves. Assumes nothing.
use Rattle.std.specs.Prelude.{◌≡◌, Bool, true, false, List, map, ℕ, ◌+◌, ◌≤◌, ◌^◌, length, take, get_or}
use Rattle.std.proofs.Math.Seq.{slice}
use Rattle.entry.specs.Entry.{entry_of, row_of}
use Rattle.definition.specs.Base.{all, ascending}
use Rattle.definition.specs.Types.{topic, Entry, Sub, Dest}
use Rattle.definition.specs.Calls.{seqs}
use Rattle.definition.specs.Layout.{Row, subs_at, sub_rows}
use Rattle.state.specs.declared.Head.{Head}
use Rattle.state.specs.State.{first_waiting}
use Rattle.state.specs.Fits.{fits}
use Rattle.state.specs.Leaves.{silent, Leaves, Room}
use Rattle.engine.specs.Storing.{holds, rows_needed}

-- the numbers of these rows rise
abbrev pub rows_in_order : List Row → Bool
rows_in_order rows = ascending (map (λ r. get_or r 0 0) rows)

-- those of the entries that a consumer holds
abbrev pub holds_in_order : Sub → Bool
holds_in_order s = ascending (seqs s.tpending)

-- rows that wait are in order: a queue's, and on a topic those of each consumer
pub record Ordered (d : Head) (subs rows : List Row) : Type 0 where
  pub waiting : rows_in_order (slice (first_waiting d) d.used rows) ≡ true
  pub held : d.queue ≡ false → all holds_in_order (subs_at topic (take d.consumers subs) rows) ≡ true

-- the rows of n consumers on a topic are among the rows, and those that each holds are in order
pub record FannedOut (n : ℕ) (subs rows : List Row) : Type 0 where
  pub few : n ≤ 32
  pub subs-long : n ≤ length subs
  pub used : sub_rows (take n subs) ≤ 512
  pub rows_long : sub_rows (take n subs) ≤ length rows
  pub held : all holds_in_order (subs_at topic (take n subs) rows) ≡ true

-- the numbers fit, rows that wait are in order, and on a topic each row is a consumer's
pub record Standing (d : Head) (subs rows : List Row) : Type 0 where
  pub fit : fits subs d (length rows) 545 ≡ true
  pub order : Ordered d subs rows
  pub own : d.queue ≡ false → d.reserved + d.waiting ≡ 0

-- a row can hold the entry, the counts are within the tables, the entry's rows are free, no row in use has its number, and rows that wait are in order
pub record Arrives (e : Entry) (d : Head) (subs rows : List Row) : Type 0 where
  pub row : entry_of (row_of e 0 0 0) ≡ e
  pub subs-long : 32 ≤ length subs
  pub rows_long : 512 ≤ length rows
  pub consumers : d.consumers ≤ 32
  pub room : d.events + d.used + rows_needed e d subs ≤ 512
  pub expired : d.stats.expired ≤ 2 ^ 62
  pub discarded : d.stats.discarded ≤ 2 ^ 62
  pub rows-used : sub_rows (take d.consumers subs) + (d.reserved + d.waiting) ≡ d.used
  pub absent : holds e.seq (take d.used rows) ≡ false
  pub order : Ordered d subs rows

-- f has happened, no event was sent, and there is room
abbrev pub Arrived : (Dest → Dest) → Head → Head → List Row → List Row → List Row → List Row → Type 0
Arrived f d r subs rows subs' rows' = (events : List Row) → Leaves (silent f) d r subs rows events subs' rows' events × Room d r
