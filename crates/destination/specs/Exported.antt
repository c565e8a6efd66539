-- The counters as a struct for programs in C. Assumes nothing.
use Rattle.queries.specs.declared.Counted.{Counted}
use Rattle.destination.specs.declared.exported.Counters.{Counters}

abbrev pub as_counters : Counted → Counters
as_counters c = record {
  refusal = c.refusal;
  enqueued = c.stats.enqueued;
  dequeued = c.stats.dequeued;
  expired = c.stats.expired;
  discarded = c.stats.discarded;
  dispatched = c.stats.dispatched;
}
