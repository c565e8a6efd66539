-- A destination by value, in its tables, on which a call is about to run: sound, with a call left, and nothing sent yet. Assumes nothing.
use Rattle.std.specs.Prelude.{◌≡◌, true, List, ◌+◌, ◌≤◌, length, take}
use Rattle.definition.specs.Types.{Id, Audit}
use Rattle.definition.specs.Calls.{sound}
use Rattle.definition.specs.Layout.{Row, sub_rows}
use Rattle.state.specs.declared.Head.{Head}
use Rattle.state.specs.State.{head_view, strict_tables}

-- the counts stand within the tables
pub record Stands (d : Head) (subs : List Row) : Type 0 where
  pub consumers : d.consumers ≤ 32
  pub used : d.used ≤ 512
  pub rows-used : sub_rows (take d.consumers subs) + (d.reserved + d.waiting) ≡ d.used

-- the tables are long enough
pub record Long (subs rows events : List Row) : Type 0 where
  pub subs-long : 32 ≤ length subs
  pub rows_long : 512 ≤ length rows
  pub events-long : 545 ≤ length events

-- the producers and audits are somewhere else: it is sound with theirs
pub record Ready (d : Head) (subs rows events : List Row) : Type 0 where
  pub producers : List Id
  pub audits : List Audit
  pub as_many : length producers ≡ d.producers
  pub is-sound : sound (head_view d subs rows producers audits) ≡ true
  pub left : d.calls_used + 1 ≤ d.call_limit
  pub none-sent : d.events ≡ 0
  pub stands : Stands d subs
  pub strict : strict_tables d subs rows ≡ true
  pub long : Long subs rows events
