-- What an acknowledgement does by its rule: which delivery numbers it means, and what becomes of what has them. The laws of Rules in proofs/
-- say that this is `ack_sub` of the definitions, type by type. Assumes nothing.
use Rattle.std.specs.Prelude.{ℕ, min, Bool, true, false, not, ◌&&◌, List, [], map, eqb, length}
use Rattle.std.proofs.Math.Option.{Option, none, some}
use Rattle.std.proofs.Math.Seq.{slice}
use Rattle.model.specs.declared.AckRange.{AckRange}
use Rattle.model.specs.declared.AckRange.TheVariants.{Empty, Between, Cumulative, Last}
use Rattle.model.specs.declared.AckEffect.{AckEffect}
use Rattle.model.specs.declared.AckEffect.TheVariants.{Stays, Frees, Marks, Removes, Redelivers}
use Rattle.model.specs.declared.AckCount.{AckCount}
use Rattle.model.specs.declared.AckCount.TheVariants.{Uncounted, Dequeue, Expiry, DeadLetter}
use Rattle.definition.specs.Base.{whether◌then◌else◌, keep, tally, find}
use Rattle.definition.specs.Types.{Inflight, Sub, Stats, Event}
use Rattle.definition.specs.Consumer.{zero_stats, add_dequeued, add_expired, add_discarded, Step, is_browser, Ack, dseq_of, or0, free, remove_inflight, redeliver, dead_letters}
use Rattle.definition.specs.Layout.{Row, inflight_at}
use Rattle.table.specs.Table.{inside}
pub use Rattle.table.specs.Table.{in_numbers, no_span}
use Rattle.table.specs.declared.Span.{Span}

-- ---- which

-- by the delivery numbers of the ack's first (0 for none) and of its last
abbrev pub span_of : AckRange → ℕ → Option ℕ → Span
span_of range first none = no_span
span_of Empty first (some last) = no_span
span_of Between first (some last) = record { first = min first last; last = last }
span_of Cumulative first (some last) = record { first = 0; last = last }
span_of Last first (some last) = record { first = last; last = last }

abbrev pub in_span : Span → Inflight → Bool
in_span p i = in_numbers p i.dseq

-- `by_seq` of rows in flight: the delivery number of the first with that sequence number
abbrev pub number_in : List Row → Option ℕ → Option ℕ
number_in l none = none
number_in l (some q) = dseq_of (find (λ i. eqb i.entry.seq q) (map inflight_at l))

-- the rows from..to; none where they do not lie within the table
abbrev pub rows_in : ℕ → ℕ → List Row → List Row
rows_in from to rows = whether inside from to (length rows) then slice from to rows else []

-- what an ack means among rows in flight
unfoldable pub span_in : AckRange → Ack → List Row → Span
span_in range a l = span_of range (or0 (number_in l a.first)) (number_in l a.last)

-- ---- what

-- a step that counts and sends nothing
abbrev pub silently : (Sub → Sub) → Sub → Step
silently f s = record { sub = f s; counts = zero_stats; events = [] }

-- what those that pass the test count as when they are removed
abbrev pub counts_of : AckCount → (Inflight → Bool) → List Inflight → Stats
counts_of Uncounted hit l = zero_stats
counts_of Dequeue hit l = add_dequeued (tally hit l)
counts_of Expiry hit l = add_expired (tally hit l)
counts_of DeadLetter hit l = add_discarded (tally (λ i. hit i && not i.entry.persistent) l)

-- and the dead letters that are sent
abbrev pub events_of : AckCount → Bool → List Inflight → List Event
events_of Uncounted cause l = []
events_of Dequeue cause l = []
events_of Expiry cause l = []
events_of DeadLetter cause l = dead_letters cause l

-- a browser's removals count nothing and send nothing
abbrev pub removed_counts : AckCount → Bool → (Inflight → Bool) → List Inflight → Stats
removed_counts c browser hit l = whether browser then zero_stats else counts_of c hit l

abbrev pub removed_events : AckCount → Bool → Bool → (Inflight → Bool) → List Inflight → List Event
removed_events c browser cause hit l = whether browser then [] else events_of c cause (keep hit l)

-- an effect on what passes the test
unfoldable pub acts : AckEffect → AckCount → Bool → (Inflight → Bool) → Sub → Step
acts Stays c cause hit s = silently (λ x. x) s
acts Frees c cause hit s = silently (free hit false) s
acts Marks c cause hit s = silently (free hit true) s
acts Redelivers c cause hit s = silently (redeliver hit) s
acts Removes c cause hit s = record {
  sub = remove_inflight hit s;
  counts = removed_counts c (is_browser s) hit s.inflight;
  events = removed_events c (is_browser s) cause hit s.inflight;
}
