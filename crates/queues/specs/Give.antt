-- What a consumer's turn does to the numbers, and what giving it a row does to the tables. Assumes nothing.
use Rattle.std.specs.Prelude.{◌≡◌, true, List, [], ℕ, ◌+◌, ◌-◌, ◌%◌, ◌≤◌, ◌<◌, ◌^◌, take, get_or, set}
use Rattle.stats.specs.Counted.{with_expired_by, with_dispatched}
use Rattle.model.specs.Model.{id_of}
use Rattle.entry.specs.Entry.{entry_of}
use Rattle.definition.specs.Types.{message}
use Rattle.definition.specs.Consumer as Def
use Rattle.definition.specs.Layout.{Row, inflight_at, flying_strict, sub_rows, event_words}
use Rattle.table.specs.Table.{insert_row}
use Rattle.consumers.specs.declared.Sub.{Sub}
use Rattle.consumers.specs.Consumers.{sub_words, sent_sub}
use Rattle.state.specs.declared.Head.{Head}
use Rattle.state.specs.State.{with_counters, with_turn, with_waiting, with_used, with_events}

-- the rows in use end there: the others waited, and have expired
abbrev pub looked_head : ℕ → Head → Head
looked_head end d = with_counters (with_expired_by d.stats (d.used - end)) (with_waiting (d.waiting - (d.used - end)) (with_used end d))

-- consumer i has taken a row
abbrev pub gave_head : ℕ → Head → Head
gave_head i d = with_counters (with_dispatched d.stats) (with_turn ((i + 1) % d.consumers) (with_waiting (d.waiting - 1) (with_events (d.events + 1) d)))

-- with another cursor
abbrev pub moved_sub : ℕ → Sub → Sub
moved_sub cursor s = record {
  conn = s.conn;
  session = s.session;
  value = s.value;
  prefetch = s.prefetch;
  selector = s.selector;
  next_dseq = s.next_dseq;
  cursor = cursor;
  pull = s.pull;
  generation = s.generation;
  freed = s.freed;
  inflight = s.inflight;
  held = s.held;
  no_local = s.no_local;
  browser = s.browser;
  finished = s.finished;
  pulling = s.pulling;
}

-- what giving the waiting row at a place to consumer i needs
pub record Gives (subs : List Row) (nrows nevents i : ℕ) (s : Sub) (at : ℕ) (d : Head) : Type 0 where
  pub waits : 0 < d.waiting
  pub place : at < nrows
  pub rows : at ≤ 512
  pub room : d.events < nevents
  pub next : s.next_dseq < 2 ^ 63
  pub flying : sub_rows (take i subs) + s.inflight ≤ 512
  pub consumer : i < d.consumers
  pub consumers : d.consumers ≤ 32

-- it stands last among the consumer's rows in flight, and an event says so; its words are strict, which leaves none of them open
pub record Gave (i : ℕ) (s : Sub) (at : ℕ) (d r : Head) (subs rows events subs' rows' events' : List Row) : Type 0 where
  pub row : Row
  pub flies : inflight_at row ≡ Def.inflight_of s.next_dseq (entry_of (get_or rows at []))
  pub strict : flying_strict row ≡ true
  pub head : r ≡ gave_head i d
  pub subs-is : subs' ≡ set subs i (sub_words (sent_sub (moved_sub (entry_of (get_or rows at [])).seq s)))
  pub rows_is : rows' ≡ insert_row (sub_rows (take i subs) + s.inflight) at row rows
  pub events-is : events' ≡ set events d.events (event_words (message (id_of s.conn s.session s.value) (entry_of (get_or rows at [])).seq (entry_of (get_or rows at [])).redelivery))
