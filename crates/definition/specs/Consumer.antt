-- One consumer: `Entry::expired` of entry.rs, the ack types of model.rs and `impl Sub` of destination.rs, with what the bodies of `ack`,
-- `dispatch_topic` and `dispatch_browser` do to one `Sub`. Each answers what it leaves; counters are given as what is added.
-- Assumes nothing.
use Rattle.std.specs.Prelude.{ℕ, ◌+◌, ◌-◌, min, Bool, true, false, not, ◌&&◌, ◌||◌, List, [], ◌∷◌, ◌++◌, map, leb, ltb, eqb, length, pos}
use Rattle.std.proofs.Math.Option.{Option, none, some}
-- entry.rs and model.rs
unfoldable pub use Rattle.entry.specs.Entry.{expired, one_more, selects}
pub use Rattle.entry.specs.Entry.{redelivered, bit}
unfoldable pub use Rattle.model.specs.Model.{ack_type}
pub use Rattle.model.specs.Model.{same_id}
pub use Rattle.model.specs.declared.AckType.{AckType}
pub use Rattle.model.specs.declared.AckType.TheVariants.{Delivered, Poison, Standard, Redelivered, Individual, Unmatched, Expired, Other}
use Rattle.definition.specs.Base.{whether◌then◌else◌, keep, tally, find, is_some}
use Rattle.definition.specs.Types.{Entry, Inflight, Sub, Stats, Event, letter, message, null, with_finished, with_inflight, with_freed, with_next_dseq, with_pull, with_tpending, with_browser}

-- ---- counters, as what a step adds

abbrev pub zero_stats : Stats
zero_stats = record { enqueued = 0; dequeued = 0; expired = 0; discarded = 0; dispatched = 0 }

infixl 60 ◌⊕◌
abbrev pub ◌⊕◌ : Stats → Stats → Stats
a ⊕ b = record { enqueued = a.enqueued + b.enqueued; dequeued = a.dequeued + b.dequeued; expired = a.expired + b.expired; discarded = a.discarded + b.discarded; dispatched = a.dispatched + b.dispatched }

abbrev pub add_enqueued : ℕ → Stats
add_enqueued k = record { enqueued = k; dequeued = 0; expired = 0; discarded = 0; dispatched = 0 }

abbrev pub add_dequeued : ℕ → Stats
add_dequeued k = record { enqueued = 0; dequeued = k; expired = 0; discarded = 0; dispatched = 0 }

abbrev pub add_expired : ℕ → Stats
add_expired k = record { enqueued = 0; dequeued = 0; expired = k; discarded = 0; dispatched = 0 }

abbrev pub add_discarded : ℕ → Stats
add_discarded k = record { enqueued = 0; dequeued = 0; expired = 0; discarded = k; dispatched = 0 }

abbrev pub add_dispatched : ℕ → Stats
add_dispatched k = record { enqueued = 0; dequeued = 0; expired = 0; discarded = 0; dispatched = k }

-- what a step leaves of one consumer: the consumer, what it adds to the counters, what it sends
pub record Step : Type 0 where
  pub sub : Sub
  pub counts : Stats
  pub events : List Event

-- ---- impl Sub

-- Sub::window
abbrev pub window : Sub → ℕ
window s = length s.inflight - s.freed

-- what a browser has left to show; `with_snapshot` is for a browser
abbrev pub shown : Option (List Entry) → List Entry
shown none = []
shown (some l) = l

abbrev pub snapshot : Sub → List Entry
snapshot s = shown s.browser

abbrev pub with_snapshot : List Entry → Sub → Sub
with_snapshot l s = with_browser (some l) s

-- Sub::is_browser
unfoldable pub is_browser : Sub → Bool
is_browser s = is_some s.browser

-- Sub::has_credit
unfoldable pub has_credit : Sub → Bool
has_credit s = whether eqb s.prefetch 0 then is_some s.pull else ltb (window s) s.prefetch

-- Sub::accepts
unfoldable pub accepts : Sub → Entry → Bool
accepts s e =
    whether s.no_local && (not (eqb e.producer 0) && eqb e.producer s.id.conn) then false
    else selects e.match_word s.selector

-- as it goes out
abbrev pub inflight_of : ℕ → Entry → Inflight
inflight_of dseq e = record { dseq = dseq; entry = e; freed = false; tx = false }

-- Sub::send: the message goes out, and stands last in flight
abbrev pub send : Entry → Sub → Sub
send e s = with_next_dseq (s.next_dseq + 1) (with_inflight (s.inflight ++ inflight_of s.next_dseq e ∷ []) (with_pull none s))

-- the `d` of Sub::send
abbrev pub sent : Sub → Entry → Event
sent s e = message s.id e.seq e.redelivery

-- Sub::send_null
abbrev pub send_null : Sub → Sub
send_null s = with_pull none s

-- ---- acknowledgements

-- MessageAck, with `transacted`; first and last are read as unsigned
pub record Ack : Type 0 where
  pub type : ℕ
  pub transacted : Bool
  pub first : Option ℕ
  pub last : Option ℕ
  pub cause : Bool  -- whether the client gave a poison cause

-- by_seq.get: the delivery number of what is in flight with that sequence number
abbrev pub dseq_of : Option Inflight → Option ℕ
dseq_of none = none
dseq_of (some i) = some i.dseq

unfoldable pub by_seq : Sub → Option ℕ → Option ℕ
by_seq s none = none
by_seq s (some q) = dseq_of (find (λ i. eqb i.entry.seq q) s.inflight)

-- Sub::ack_range, as a test of what is in flight: its delivery number is from start to last
abbrev pub or0 : Option ℕ → ℕ
or0 none = 0
or0 (some k) = k

abbrev pub ranged : Option ℕ → Inflight → Option ℕ → Bool
ranged first i none = false
ranged first i (some last) = leb (min (or0 first) last) i.dseq && leb i.dseq last

unfoldable pub ack_range : Sub → Ack → Bool → Inflight → Bool
ack_range s a cumulative i = ranged (whether cumulative then none else by_seq s a.first) i (by_seq s a.last)

-- INDIVIDUAL: the last one alone
abbrev pub is_dseq : Inflight → Option ℕ → Bool
is_dseq i none = false
is_dseq i (some k) = eqb i.dseq k

unfoldable pub ack_last : Sub → Ack → Inflight → Bool
ack_last s a i = is_dseq i (by_seq s a.last)

-- what passes the test is freed, and with tx marked as acknowledged in a transaction
abbrev pub freed_as : (Inflight → Bool) → Bool → Inflight → Inflight
freed_as hit tx i = whether hit i then record { dseq = i.dseq; entry = i.entry; freed = true; tx = tx || i.tx } else i

-- `inf.freed = true`, counted
abbrev pub free : (Inflight → Bool) → Bool → Sub → Sub
free hit tx s = with_inflight (map (freed_as hit tx) s.inflight) (with_freed (s.freed + tally (λ i. hit i && not i.freed) s.inflight) s)

-- Sub::remove_inflight of what passes the test
abbrev pub remove_inflight : (Inflight → Bool) → Sub → Sub
remove_inflight hit s = with_inflight (keep (λ i. not (hit i)) s.inflight) (with_freed (s.freed - tally (λ i. hit i && i.freed) s.inflight) s)

-- REDELIVERED: the counter of what passes the test rises
abbrev pub bumped : (Inflight → Bool) → Inflight → Inflight
bumped hit i = whether hit i then record { dseq = i.dseq; entry = redelivered i.entry; freed = i.freed; tx = i.tx } else i

-- REDELIVERED of Dest::ack
abbrev pub redeliver : (Inflight → Bool) → Sub → Sub
redeliver hit s = with_inflight (map (bumped hit) s.inflight) s

-- the effects of a POISON acknowledgement
abbrev pub dead_letters : Bool → List Inflight → List Event
dead_letters cause [] = []
dead_letters cause (i ∷ is) =
    whether i.entry.persistent then letter i.entry.seq i.entry.redelivery cause ∷ dead_letters cause is
    else dead_letters cause is

-- a count that a browser's acknowledgement does not make
abbrev pub unless_browser : Sub → Stats → Stats
unless_browser s c = whether is_browser s then zero_stats else c

-- the transacted branch of Dest::ack (DELIVERED is never transacted in effect); INDIVIDUAL marks the last one alone, as document 02 §2 has it
unfoldable pub ack_transacted : Ack → Sub → AckType → Sub
ack_transacted a s Standard = free (ack_range s a true) true s
ack_transacted a s Unmatched = free (ack_range s a true) true s
ack_transacted a s Poison = free (ack_range s a false) true s
ack_transacted a s Redelivered = free (ack_range s a false) true s
ack_transacted a s Individual = free (ack_last s a) true s
ack_transacted a s Expired = free (ack_range s a false) true s
ack_transacted a s Other = free (ack_range s a false) true s
ack_transacted a s Delivered = free (ack_range s a false) false s

-- a count of what is taken, and no event
abbrev pub took : (Inflight → Bool) → (ℕ → Stats) → Sub → Step
took hit count s = record { sub = remove_inflight hit s; counts = unless_browser s (count (tally hit s.inflight)); events = [] }

-- the untransacted branch
unfoldable pub ack_plain : Ack → Sub → AckType → Step
ack_plain a s Delivered = record { sub = free (ack_range s a false) false s; counts = zero_stats; events = [] }
ack_plain a s Standard = took (ack_range s a true) add_dequeued s
ack_plain a s Unmatched = took (ack_range s a true) add_dequeued s
ack_plain a s Individual = took (ack_last s a) add_dequeued s
ack_plain a s Poison = record {
  sub = remove_inflight (ack_range s a false) s;
  counts = unless_browser s (add_discarded (tally (λ i. ack_range s a false i && not i.entry.persistent) s.inflight));
  events = whether is_browser s then [] else dead_letters a.cause (keep (ack_range s a false) s.inflight);
}
ack_plain a s Redelivered = record { sub = redeliver (ack_range s a false) s; counts = zero_stats; events = [] }
ack_plain a s Expired = took (ack_range s a false) add_expired s
ack_plain a s Other = record { sub = s; counts = zero_stats; events = [] }

-- Dest::ack, of the consumer at its position
unfoldable pub ack_sub : Ack → Sub → Step
ack_sub a s =
    whether a.transacted then record { sub = ack_transacted a s (ack_type a.type); counts = zero_stats; events = [] }
    else ack_plain a s (ack_type a.type)

-- ---- dispatch to one consumer

-- one entry that was popped from a topic consumer's list: expired, or sent
unfoldable pub meet_topic : ℕ → Entry → List Entry → Step → Step
meet_topic by e es t =
    whether expired (pos by) e then record { sub = with_tpending es t.sub; counts = t.counts ⊕ add_expired 1; events = t.events }
    else record { sub = send e (with_tpending es t.sub); counts = t.counts ⊕ add_dispatched 1; events = t.events ++ sent t.sub e ∷ [] }

-- while sub.has_credit() { pop_first .. }
unfoldable pub drain_topic : ℕ → List Entry → Step → Step
drain_topic by [] t = t
drain_topic by (e ∷ es) t = whether has_credit t.sub then drain_topic by es (meet_topic by e es t) else t

-- nothing done yet
abbrev pub at_rest : Sub → Step
at_rest s = record { sub = s; counts = zero_stats; events = [] }

-- Dest::dispatch_topic, of one consumer
abbrev pub serve_topic : ℕ → Sub → Step
serve_topic by s = drain_topic by s.tpending (at_rest s)

-- what dispatch to a browser leaves: the browser, the queue, what it adds to the counters, what it sends
pub record Browse : Type 0 where
  pub sub : Sub
  pub pending : List Entry
  pub counts : Stats
  pub events : List Event

abbrev pub same_seq : Entry → Entry → Bool
same_seq e f = eqb e.seq f.seq

-- one entry that was popped from the snapshot: expired, and deleted if it still waits on the queue; or sent
unfoldable pub meet_browser : ℕ → Entry → List Entry → Browse → Browse
meet_browser by e es b =
    whether expired (pos by) e then record {
      sub = with_snapshot es b.sub;
      pending = keep (λ f. not (same_seq e f)) b.pending;
      counts = b.counts ⊕ add_expired (tally (same_seq e) b.pending);
      events = b.events;
    }
    else record {
      sub = send e (with_snapshot es b.sub);
      pending = b.pending;
      counts = b.counts;
      events = b.events ++ sent b.sub e ∷ [];
    }

-- the snapshot is empty: the closing null, once
unfoldable pub close_browser : Browse → Browse
close_browser b =
    whether b.sub.finished then b
    else record { sub = send_null (with_finished true b.sub); pending = b.pending; counts = b.counts; events = b.events ++ null b.sub.id ∷ [] }

-- Dest::dispatch_browser: the loop
unfoldable pub drain_browser : ℕ → List Entry → Browse → Browse
drain_browser by [] b = whether has_credit b.sub then close_browser b else b
drain_browser by (e ∷ es) b = whether has_credit b.sub then drain_browser by es (meet_browser by e es b) else b

-- Dest::dispatch_browser
abbrev pub dispatch_browser : ℕ → List Entry → Sub → Browse
dispatch_browser by pending s = drain_browser by (snapshot s) (record { sub = s; pending = pending; counts = zero_stats; events = [] })

-- opens the definitions of this file
unfoldable pub consumer_open : Unit {0}
unfolding expired one_more selects is_browser has_credit accepts ack_type by_seq ack_range ack_last ack_transacted ack_plain ack_sub meet_topic drain_topic meet_browser close_browser drain_browser
consumer_open = tt
