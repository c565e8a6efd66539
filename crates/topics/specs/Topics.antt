-- A topic's dispatch on the tables: one consumer's part of them, and what the definition makes of it. Assumes nothing.
use Rattle.std.specs.Prelude.{◌≡◌, Bool, ◌&&◌, List, ◌++◌, map, ℕ, ◌+◌, ◌-◌, ◌≤◌, ◌<◌, ◌^◌, ltb, take, drop}
use Rattle.stats.specs.declared.Stats.{Stats}
use Rattle.definition.specs.Types.{topic}
use Rattle.definition.specs.Types as Def
use Rattle.definition.specs.Consumer.{◌⊕◌, Step, serve_topic}
use Rattle.definition.specs.Layout.{Row, event_words}
use Rattle.consumers.specs.declared.Sub.{Sub}
use Rattle.consumers.specs.Consumers.{row_sub, sub_view, credit_of}
use Rattle.state.specs.declared.Head.{Head}
use Rattle.state.specs.Parts.{Parts, parts_of, head_moved}

-- it holds something, and has credit: else serving it leaves everything as it is
abbrev pub can_serve : Row → Bool
can_serve w = ltb 0 (row_sub w).held && credit_of (row_sub w)

-- a consumer, the rows before and after its own, the counters and the events so far
pub record Seen : Type 0 where
  pub before : List Row
  pub sub : Def.Sub
  pub after : List Row
  pub stats : Stats
  pub events : List Row

-- its rows begin at base
unfoldable pub topic_seen : ℕ → Sub → Head → List Row → List Row → Seen
topic_seen base s d rows events = let p = parts_of base s.inflight s.held d.used rows in record {
  before = p.before;
  sub = sub_view topic s p.flying p.held;
  after = p.after;
  stats = d.stats;
  events = take d.events events;
}

-- with the consumer that a step leaves, what it counts and what it sends
abbrev pub topic_stepped : Step → Seen → Seen
topic_stepped t v = record { before = v.before; sub = t.sub; after = v.after; stats = v.stats ⊕ t.counts; events = v.events ++ map event_words t.events }

abbrev pub topic_ran : ℕ → Seen → Seen
topic_ran by v = topic_stepped (serve_topic by v.sub) v

-- the counts lie within the tables, and no number runs out
pub record TopicFine (nrows nevents base : ℕ) (s : Sub) (d : Head) (by : ℕ) : Type 0 where
  pub rows : base + s.inflight + s.held ≤ d.used
  pub used : d.used ≤ 512
  pub room : 512 ≤ nrows
  pub events : d.events + s.held ≤ nevents
  pub next : s.next_dseq + s.held < 2 ^ 63
  pub expired : d.stats.expired + s.held < 2 ^ 63
  pub dispatched : d.stats.dispatched + s.held < 2 ^ 63
  pub clock : by ≤ 2 ^ 62

-- what the counts do while the consumer is served
pub record ConsumerKept (base : ℕ) (s : Sub) (d : Head) (t : Sub) (r : Head) : Type 0 where
  pub rows : base + t.inflight + t.held ≤ r.used
  pub used : r.used ≤ d.used
  pub tail : r.used + (s.inflight + s.held) ≡ d.used + (t.inflight + t.held)
  pub own : t.inflight + t.held ≤ s.inflight + s.held
  pub events : r.events + t.held ≤ d.events + s.held
  pub sent : d.events ≤ r.events
  pub expired : r.stats.expired + t.held ≤ d.stats.expired + s.held
  pub dispatched : r.stats.dispatched + t.held ≤ d.stats.dispatched + s.held
  pub head : r ≡ head_moved d r

-- what a topic's dispatch promises besides: the consumers stay, and it sends no more than there are rows in use
pub record Dispatched (d r : Head) : Type 0 where
  pub consumers : r.consumers ≡ d.consumers
  pub most : r.events ≤ d.events + d.used
