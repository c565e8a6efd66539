-- How entries leave a queue (document 02 §7), read from the calls made: no counter and no browser's copy is looked at. Assumes nothing.
use Rattle.std.specs.Prelude.{ℕ, Bool, true, false, not, List, [], ◌++◌, map, eqb}
use Rattle.std.proofs.Math.Option.{Option, none, some}
use Rattle.definition.specs.Base.{whether◌then◌else◌, keep, member}
use Rattle.definition.specs.Types.{Id, Entry, Inflight, Sub, Dest}
use Rattle.definition.specs.Consumer.{AckType, Delivered, Poison, Standard, Redelivered, Individual, Unmatched, Expired, Other, ack_type, Ack, ack_range, ack_last, is_browser}
use Rattle.definition.specs.Destination.{sub_of, reserved_of, reserved_hit}
use Rattle.definition.specs.Calls.{brought, seqs, taken, held, acknowledge, pulling, timed_out, prefetching, Call, enqueuing, joining, leaving, asking, unmarking, releasing, sweeping, clearing, adding, removing, testing, forgetting, discarding, missing}

-- how an entry left
pub data Fate : Type 0 where
  dequeued expired discarded dead_lettered cleared : Fate

abbrev pub rank : Fate → ℕ
rank dequeued = 0
rank expired = 1
rank discarded = 2
rank dead_lettered = 3
rank cleared = 4

abbrev pub same_fate : Fate → Fate → Bool
same_fate a b = eqb (rank a) (rank b)

-- an entry that left, and how
pub record Departure : Type 0 where
  pub entry : Entry
  pub fate : Fate

-- what a queue holds: waiting, reserved, or in flight at a consumer that is no browser
abbrev pub holding : Dest → List Entry
holding t = t.pending ++ (held t ++ taken t.subs)

-- what an acknowledgement removes: POISON dead-letters, persistent or not; EXPIRED counts it as expired, and any other as dequeued
abbrev pub ack_fate : AckType → Fate
ack_fate Poison = dead_lettered
ack_fate Expired = expired
ack_fate Standard = dequeued
ack_fate Individual = dequeued
ack_fate Unmatched = dequeued
ack_fate Delivered = dequeued
ack_fate Redelivered = dequeued
ack_fate Other = dequeued

-- how a call can make entries leave: as an acknowledgement of some type, as a clear, or only by the clock
pub data Means : Type 0 where
  acks : AckType → Means
  clears expires : Means

abbrev pub means : Call → Means
means (asking i (acknowledge a now)) = acks (ack_type a.type)
means clearing = clears
means (asking i (pulling timeout now)) = expires
means (asking i (timed_out generation)) = expires
means (asking i (prefetching p now)) = expires
means (enqueuing e now) = expires
means (joining p now) = expires
means (leaving i last now) = expires
means (unmarking i) = expires
means (releasing i now) = expires
means (sweeping now most) = expires
means (adding i) = expires
means (removing i now) = expires
means (testing i q) = expires
means (forgetting conn) = expires
means discarding = expires
means missing = expires

-- e waits on t
abbrev pub waits : Dest → Entry → Bool
waits t e = member e.seq (seqs t.pending)

-- an acknowledgement's own removals, among what leaves in it: what did not wait, so was in flight at the consumer or reserved for it
unfoldable pub removal : Dest → Entry → Means → Bool
removal t e (acks y) = not (waits t e)
removal t e clears = false
removal t e expires = false

-- the fate of an entry that leaves in a call on t; what waited and leaves in an acknowledgement has expired in its dispatch
unfoldable pub fate_by : Dest → Entry → Means → Fate
fate_by t e (acks y) = whether waits t e then expired else ack_fate y
fate_by t e clears = cleared
fate_by t e expires = expired

-- ---- what an acknowledgement names

-- of what is in flight at its consumer, by type
unfoldable pub hits : Sub → Ack → Inflight → AckType → Bool
hits s a i Standard = ack_range s a true i
hits s a i Unmatched = ack_range s a true i
hits s a i Individual = ack_last s a i
hits s a i Poison = ack_range s a false i
hits s a i Expired = ack_range s a false i
hits s a i Delivered = false
hits s a i Redelivered = false
hits s a i Other = false

-- of what is reserved, with the last number if there is one
abbrev pub named_reserved : Id → Ack → Dest → Option ℕ → List Entry
named_reserved i a t none = []
named_reserved i a t (some last) = keep (λ e. reserved_hit a.first last e (ack_type a.type)) (reserved_of i t)

-- of an absent consumer, or of one that is there and is no browser
abbrev pub named_at : Id → Ack → Dest → Option Sub → List Entry
named_at i a t none = named_reserved i a t a.last
named_at i a t (some s) = whether is_browser s then [] else map (λ x. x.entry) (keep (λ x. hits s a x (ack_type a.type)) s.inflight)

-- a transacted one only marks
abbrev pub named_by : Id → Ack → Dest → List Entry
named_by i a t = whether a.transacted then [] else named_at i a t (sub_of i t)

-- ---- what leaves

-- what leaves in a call that brought b and made u of t: held before or brought, and not held after
unfoldable pub leavers : List Entry → Dest → Dest → List Entry
leavers b t u = keep (λ e. not (member e.seq (seqs (holding u)))) (holding t ++ b)

abbrev pub departing : Dest → Means → Entry → Departure
departing t m e = record { entry = e; fate = fate_by t e m }

abbrev pub departures : Call → Dest → Dest → List Departure
departures c t u = map (departing t (means c)) (leavers (brought c) t u)
