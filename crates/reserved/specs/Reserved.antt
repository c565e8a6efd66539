-- The entries that are reserved for a consumer that has left: whether there are any, and what an acknowledgement takes of them by its rule. The
-- laws of Types in proofs/ say that this is `ack_reserved` of the definitions, type by type. Assumes nothing.
use Rattle.std.specs.Prelude.{ℕ, ◌+◌, ◌≤◌, ◌^◌, Bool, false, not, ◌&&◌, List, [], map, leb, length}
use Rattle.std.proofs.Math.Option.{Option}
use Rattle.std.proofs.Math.Seq.{slice}
use Rattle.stats.specs.Counted.{with_dequeued_by, with_expired_by}
use Rattle.model.specs.declared.AckRange.{AckRange}
use Rattle.model.specs.declared.AckRange.TheVariants.{Empty, Between, Cumulative, Last}
use Rattle.model.specs.declared.AckCount.{AckCount}
use Rattle.model.specs.declared.AckCount.TheVariants.{Uncounted, Dequeue, Expiry, DeadLetter}
use Rattle.definition.specs.Base.{whether◌then◌else◌, keep, tally, empty}
use Rattle.definition.specs.Types.{Id, Entry, Held, Stats, Event, Dest, with_reserved}
use Rattle.definition.specs.Consumer.{zero_stats, add_dequeued, add_expired, add_discarded, or0}
use Rattle.definition.specs.Destination.{Out, count, held_by, letters}
use Rattle.definition.specs.Layout.{Row, held_at}
use Rattle.state.specs.declared.Head.{Head}
use Rattle.state.specs.State.{with_counters, first_reserved, first_waiting}
use Rattle.table.specs.declared.Span.{Span}
use Rattle.acks.specs.Rules.{no_span, in_numbers}
use Rattle.acks.specs.Parts.{row_letters, row_discards}

-- ---- whether there are any

abbrev pub any_held : Id → List Row → Bool
any_held id l = not (empty (keep (λ w. held_by id (held_at w)) l))

-- among the reserved rows, where they lie within the table
unfoldable pub has_reserved : Head → Id → List Row → Bool
has_reserved d id rows = whether leb (first_waiting d) (length rows) then any_held id (slice (first_reserved d) (first_waiting d) rows) else false

-- ---- by the rule

-- reserved for that consumer, with a sequence number of the span
abbrev pub wants : Id → Span → Held → Bool
wants id p h = held_by id h && in_numbers p h.entry.seq

unfoldable pub wants_row : Id → Span → Row → Bool
wants_row id p w = wants id p (held_at w)

-- by the ack's first number, where it has one, and its last
abbrev pub wanted_of : AckRange → Option ℕ → ℕ → Span
wanted_of Empty first last = no_span
wanted_of Between first last = record { first = or0 first; last = last }
wanted_of Cumulative first last = record { first = 0; last = last }
wanted_of Last first last = record { first = last; last = last }

-- what the entries that are taken count as, and what is sent
abbrev pub taken_counts : AckCount → List Entry → Stats
taken_counts Uncounted l = zero_stats
taken_counts Dequeue l = add_dequeued (length l)
taken_counts Expiry l = add_expired (length l)
taken_counts DeadLetter l = add_discarded (tally (λ e. not e.persistent) l)

abbrev pub taken_events : AckCount → List Entry → List Event
taken_events Uncounted l = []
taken_events Dequeue l = []
taken_events Expiry l = []
taken_events DeadLetter l = letters l

-- the wanted entries go
unfoldable pub taking : Id → AckCount → Span → Dest → Out
taking id c p t =
    let taken = map (λ h. h.entry) (keep (wants id p) t.reserved) in
    record { dest = count (taken_counts c taken) (with_reserved (keep (λ h. not (wants id p h)) t.reserved) t); events = taken_events c taken }

-- ---- in two parts: what is told while the rows stand, and what is counted when they have gone

abbrev pub told_counts : AckCount → (Row → Bool) → List Row → Stats
told_counts Uncounted q l = zero_stats
told_counts Dequeue q l = zero_stats
told_counts Expiry q l = zero_stats
told_counts DeadLetter q l = add_discarded (row_discards q l)

abbrev pub told_events : AckCount → List Row → List Event
told_events Uncounted l = []
told_events Dequeue l = []
told_events Expiry l = []
told_events DeadLetter l = row_letters false l

abbrev pub counted_head : AckCount → ℕ → Head → Head
counted_head Uncounted n d = d
counted_head Dequeue n d = with_counters (with_dequeued_by d.stats n) d
counted_head Expiry n d = with_counters (with_expired_by d.stats n) d
counted_head DeadLetter n d = d

-- the counts lie within the tables, and no number runs out
pub record Holding (nrows nevents : ℕ) (d : Head) : Type 0 where
  pub rows : d.reserved + d.waiting ≤ d.used
  pub used : d.used ≤ 512
  pub room : 512 ≤ nrows
  pub events : d.events + d.used ≤ 512
  pub events-room : 545 ≤ nevents
  pub dequeued : d.stats.dequeued ≤ 2 ^ 62
  pub expired : d.stats.expired ≤ 2 ^ 62
  pub discarded : d.stats.discarded ≤ 2 ^ 62
