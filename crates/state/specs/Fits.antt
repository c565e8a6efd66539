-- Whether the numbers of a destination fit the tables and the event list: what every index of a call goes by. Assumes nothing.
use Rattle.std.specs.Prelude.{◌≡◌, ℕ, ◌+◌, ◌≤◌, ◌^◌, Bool, true, List, [], ◌∷◌, eqb, leb, length, take}
use Rattle.definition.specs.Base.{all, every}
use Rattle.definition.specs.Layout.{Row, sub_rows}
use Rattle.stats.specs.declared.Stats.{Stats}
use Rattle.consumers.specs.Table.{fitting}
use Rattle.state.specs.declared.Head.{Head}

-- so many consumers, rows and events have room
abbrev pub tables_fit : ℕ → ℕ → ℕ → Bool
tables_fit subs rows events = every (leb 32 subs ∷ leb 512 rows ∷ leb 545 events ∷ [])

abbrev pub numbers_fit : Head → Bool
numbers_fit d = every (
    leb d.consumers 32
    ∷ leb d.turn 32
    ∷ leb d.reserved 512
    ∷ leb d.waiting 512
    ∷ leb d.used 512
    ∷ leb (d.events + d.used) 512
    ∷ leb d.calls_used (2 ^ 62)
    ∷ [])

abbrev pub counters_fit : Stats → Bool
counters_fit s = every (
    leb s.enqueued (2 ^ 62)
    ∷ leb s.dequeued (2 ^ 62)
    ∷ leb s.expired (2 ^ 62)
    ∷ leb s.discarded (2 ^ 62)
    ∷ leb s.dispatched (2 ^ 62)
    ∷ [])

-- on a table of consumers, with so many rows and events
unfoldable pub fits : List Row → Head → ℕ → ℕ → Bool
fits subs d rows events = every (
    tables_fit (length subs) rows events
    ∷ numbers_fit d
    ∷ counters_fit d.stats
    ∷ eqb (sub_rows (take d.consumers subs) + (d.reserved + d.waiting)) d.used
    ∷ all fitting (take d.consumers subs)
    ∷ [])

-- the same as facts
pub record Fits (subs : List Row) (d : Head) (rows events : ℕ) : Type 0 where
  pub subs-long : 32 ≤ length subs
  pub rows_long : 512 ≤ rows
  pub events-long : 545 ≤ events
  pub consumers : d.consumers ≤ 32
  pub turn : d.turn ≤ 32
  pub reserved : d.reserved ≤ 512
  pub waiting : d.waiting ≤ 512
  pub used : d.used ≤ 512
  pub sent : d.events + d.used ≤ 512
  pub calls : d.calls_used ≤ 2 ^ 62
  pub enqueued : d.stats.enqueued ≤ 2 ^ 62
  pub dequeued : d.stats.dequeued ≤ 2 ^ 62
  pub expired : d.stats.expired ≤ 2 ^ 62
  pub discarded : d.stats.discarded ≤ 2 ^ 62
  pub dispatched : d.stats.dispatched ≤ 2 ^ 62
  pub rows-used : sub_rows (take d.consumers subs) + (d.reserved + d.waiting) ≡ d.used
  pub fitted : all fitting (take d.consumers subs) ≡ true
