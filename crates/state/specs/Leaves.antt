-- What a part of a call leaves of a destination by value, of its tables and of the events, where f is what it means. Assumes nothing.
use Rattle.std.specs.Prelude.{◌≡◌, Bool, true, false, List, [], ◌++◌, map, ◌+◌, ◌≤◌, length, take, drop}
use Rattle.definition.specs.Types.{Id, Audit, Dest}
use Rattle.definition.specs.Destination.{Out}
use Rattle.definition.specs.Layout.{Row, sub_rows, event_words}
use Rattle.state.specs.declared.Head.{Head}
use Rattle.state.specs.State.{head_view, strict_tables}

-- a part that sends nothing
abbrev pub silent : (Dest → Dest) → Dest → Out
silent f t = record { dest = f t; events = [] }

-- one part after another
abbrev pub both : (Dest → Out) → (Dest → Out) → Dest → Out
both f g t = record { dest = (g (f t).dest).dest; events = (f t).events ++ (g (f t).dest).events }

-- the destination and the events are as f has them, whatever the producers and audits; the counts stand within the tables; strict words stay
-- strict; and what is no part of the state, or not sent, is as it was. Open, and never looked at by `head_view`: rows past those in use, consumers
-- past their count, words 6 to 8 of a row that neither flies nor is reserved, the idle clock and a pull's number without their marks.
pub record Leaves (f : Dest → Out) (d r : Head) (subs rows events subs' rows' events' : List Row) : Type 0 where
  pub view : (producers : List Id) (audits : List Audit) → length producers ≡ d.producers → head_view r subs' rows' producers audits ≡ (f (head_view d subs rows producers audits)).dest
  pub sent : (producers : List Id) (audits : List Audit) → length producers ≡ d.producers → take r.events events' ≡ take d.events events ++ map event_words (f (head_view d subs rows producers audits)).events
  pub later : drop r.events events' ≡ drop r.events events
  pub more : d.events ≤ r.events
  pub producers : r.producers ≡ d.producers
  pub audits : r.audits ≡ d.audits
  pub queue : r.queue ≡ d.queue
  pub allowance : r.allowance ≡ d.allowance
  pub share : r.share ≡ d.share
  pub consumers : r.consumers ≤ 32
  pub used : r.used ≤ 512
  pub rows-used : sub_rows (take r.consumers subs') + (r.reserved + r.waiting) ≡ r.used
  pub strict : strict_tables d subs rows ≡ true → strict_tables r subs' rows' ≡ true
  pub subs-past : drop 32 subs' ≡ drop 32 subs
  pub rows-past : drop 512 rows' ≡ drop 512 rows
  pub subs-length : length subs' ≡ length subs
  pub rows-length : length rows' ≡ length rows
  pub events-length : length events' ≡ length events

-- nothing has happened
pub record Untouched (d r : Head) (subs rows events subs' rows' events' : List Row) : Type 0 where
  pub same_head : r ≡ d
  pub same-subs : subs' ≡ subs
  pub same_rows : rows' ≡ rows
  pub same-events : events' ≡ events

-- where a test holds, what f means and what else is promised; elsewhere nothing has happened
abbrev pub LeavesIf : Bool → Type 0 → (Dest → Out) → Head → Head → List Row → List Row → List Row → List Row → List Row → List Row → Type 0
LeavesIf true also f d r subs rows events subs' rows' events' = Leaves f d r subs rows events subs' rows' events' × also
LeavesIf false also f d r subs rows events subs' rows' events' = Untouched d r subs rows events subs' rows' events'

-- what else many a part promises: what a dispatch sends still has room, and the consumers are as many
pub record Room (d r : Head) : Type 0 where
  pub room : r.events + r.used ≤ 512
  pub as_many : r.consumers ≡ d.consumers
