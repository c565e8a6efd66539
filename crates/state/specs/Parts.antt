-- The rows about one consumer, what it is once the first row that it holds was sent or went, and a head that has its counts from another. Assumes nothing.
use Rattle.std.specs.Prelude.{List, ℕ, ◌+◌, ◌-◌, take, drop}
use Rattle.definition.specs.Layout.{Row}
use Rattle.consumers.specs.declared.Sub.{Sub}
use Rattle.consumers.specs.Consumers.{with_held, sent_sub}
use Rattle.state.specs.declared.Head.{Head}

-- the rows in use about one consumer: those before its own, its own in flight and held, those after them
pub record Parts : Type 0 where
  pub before : List Row
  pub flying : List Row
  pub held : List Row
  pub after : List Row

-- its rows begin at base: so many in flight, and then so many held
abbrev pub parts_of : ℕ → ℕ → ℕ → ℕ → List Row → Parts
parts_of base inflight held used rows = record {
  before = take base rows;
  flying = take inflight (drop base rows);
  held = take held (drop (base + inflight) rows);
  after = take (used - (base + inflight + held)) (drop (base + inflight + held) rows);
}

-- `Sub::send` of the first row that it holds, by value
abbrev pub held_sent : Sub → Sub
held_sent s = sent_sub (with_held (s.held - 1) s)

-- and of one that goes
abbrev pub lost_sub : Sub → Sub
lost_sub s = with_held (s.held - 1) s

-- the second head's rows in use, events and counters, and the rest of the first
abbrev pub head_moved : Head → Head → Head
head_moved d r = record {
  topic_limit = d.topic_limit;
  call_limit = d.call_limit;
  allowance = d.allowance;
  share = d.share;
  calls_used = d.calls_used;
  turn = d.turn;
  idle_since = d.idle_since;
  stats = r.stats;
  consumers = d.consumers;
  producers = d.producers;
  audits = d.audits;
  reserved = d.reserved;
  waiting = d.waiting;
  used = r.used;
  events = r.events;
  queue = d.queue;
  idle = d.idle;
}
