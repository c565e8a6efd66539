-- What the first part of a queue's dispatch means: its browsers are served from their own snapshots. Assumes nothing.
use Rattle.std.specs.Prelude.{◌≡◌, true, List, ℕ, ◌+◌, ◌≤◌, take}
use Rattle.definition.specs.Base.{all}
use Rattle.definition.specs.Types.{Dest, with_pending, with_subs}
use Rattle.definition.specs.Destination.{Out, count, browsers}
use Rattle.definition.specs.Layout.{Row}
use Rattle.consumers.specs.Table.{next_fits}
use Rattle.state.specs.declared.Head.{Head}

-- `browsers` of the definitions, as a part of a call
abbrev pub browsed : ℕ → Dest → Out
browsed by t = let b = browsers by t.subs t.pending in record { dest = count b.counts (with_pending b.pending (with_subs b.subs t)); events = b.events }

-- what it promises besides: which numbers stay, and how far the others go
pub record BrowsersServed (d r : Head) (subs' : List Row) : Type 0 where
  pub consumers : r.consumers ≡ d.consumers
  pub turn : r.turn ≡ d.turn
  pub reserved : r.reserved ≡ d.reserved
  pub waiting : r.waiting ≤ d.waiting
  pub used : r.used ≤ d.used
  pub most : r.events + r.waiting ≤ d.events + d.used + d.consumers
  pub expired : r.stats.expired ≤ d.stats.expired + d.used
  pub dispatched : r.stats.dispatched ≡ d.stats.dispatched
  pub nexts : all next_fits (take r.consumers subs') ≡ true
