-- The sweep of one list of rows, and of the consumers, and what the definition makes of them. Assumes nothing.
use Rattle.std.specs.Prelude.{◌≡◌, ℕ, ◌+◌, ◌-◌, ◌≤◌, ◌^◌, Bool, true, List, map, length, take, Some, None}
use Rattle.std.specs.Prelude as Std
use Rattle.std.proofs.Math.Option.{Option, none, some}
use Rattle.std.proofs.Math.Seq.{slice}
use Rattle.entry.specs.Entry.{entry_of}
use Rattle.definition.specs.Base.{whether◌then◌else◌, all}
use Rattle.definition.specs.Types.{Id, Audit, Dest, Entry, with_pending, with_subs}
use Rattle.definition.specs.Destination.{sweep_list, sweep_subs}
use Rattle.definition.specs.Layout.{Row, sub_rows, entry_strict}
use Rattle.state.specs.declared.Head.{Head}
use Rattle.state.specs.State.{head_view, with_used}
use Rattle.state.specs.Leaves.{silent, Leaves}
use Rattle.expiry.specs.declared.Swept.{Swept}

-- the entry that was found, if one was
abbrev pub next_of : Std.Option Entry → Option Entry
next_of (Some e) = some e
next_of None = none

-- the rows in use about a list, its entries, and how many went
pub record Listed : Type 0 where
  pub before : List Row
  pub list : List Entry
  pub after : List Row
  pub gone : ℕ

-- the list begins at from
unfoldable pub sweep_listed : ℕ → Swept → List Row → Listed
sweep_listed from w rows = record {
  before = take from rows;
  list = map entry_of (slice from (from + w.length) rows);
  after = slice (from + w.length) w.used rows;
  gone = w.gone;
}

-- swept with the budget that is left
unfoldable pub swept : ℕ → ℕ → Listed → Listed
swept most by v = let x = sweep_list (most - v.gone) by v.list in record { before = v.before; list = x.list; after = v.after; gone = v.gone + x.gone }

-- the counts lie within the table
pub record SweepFine (nrows from : ℕ) (w : Swept) (most by : ℕ) : Type 0 where
  pub rows : from + w.length ≤ w.used
  pub used : w.used ≤ 512
  pub room : 512 ≤ nrows
  pub gone : w.gone ≤ most
  pub few : most ≤ 512
  pub clock : by ≤ 2 ^ 62

-- what the counts do: as many rows go from those in use as from the list
pub record Shorter (most : ℕ) (w r : Swept) : Type 0 where
  pub length : r.length ≤ w.length
  pub tail : r.used + w.length ≡ w.used + r.length
  pub gone : r.gone ≤ most

-- the list's rows stay strict
abbrev pub StaysStrict : ℕ → Swept → Swept → List Row → List Row → Type 0
StaysStrict from w r rows rows' = all entry_strict (slice from (from + w.length) rows) ≡ true → all entry_strict (slice from (from + r.length) rows') ≡ true

-- ---- the parts of the call

-- the entries that wait
abbrev pub waiting_swept : ℕ → ℕ → Dest → Dest
waiting_swept most by t = with_pending (sweep_list most by t.pending).list t

-- those that the consumers hold, with a budget
abbrev pub subs_swept : ℕ → ℕ → Dest → Dest
subs_swept budget by t = with_subs (sweep_subs budget by t.subs).subs t

-- ---- the consumers

-- a snapshot is not swept
abbrev pub swept_unless : Bool → ℕ → ℕ → Listed → Listed
swept_unless snapshot most by v = whether snapshot then v else swept most by v

-- the counts lie within the tables, and so many went before
pub record Able (subs : List Row) (d : Head) (nrows before most by : ℕ) : Type 0 where
  pub subs-long : 32 ≤ length subs
  pub rows_long : 512 ≤ nrows
  pub consumers : d.consumers ≤ 32
  pub used : d.used ≤ 512
  pub rows-used : sub_rows (take d.consumers subs) + (d.reserved + d.waiting) ≡ d.used
  pub gone : before ≤ most
  pub few : most ≤ 512
  pub clock : by ≤ 2 ^ 62

-- what the consumers' sweep leaves, and how many went up to its end
pub record SubsSwept (most by : ℕ) (d : Head) (before : ℕ) (subs rows subs' rows' : List Row) (r : Swept) : Type 0 where
  pub leaves : (events : List Row) → Leaves (silent (subs_swept (most - before) by)) d (with_used r.used d) subs rows events subs' rows' events
  pub gone : (producers : List Id) (audits : List Audit) → r.gone ≡ before + (sweep_subs (most - before) by (head_view d subs rows producers audits).subs).gone
  pub few : r.gone ≤ most
  pub used : r.used ≤ d.used
