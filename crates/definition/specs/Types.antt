-- The destination, as a value: `Entry`, `Inflight`, `Sub`, `Stats` and `Dest` of src/broker, nested as there.
-- Sequence, ack and audit numbers are 64-bit words; a number whose sign the Rust reads or prints is a ℤ. `with_f x r` is the record r with x in
-- its field f.
-- Assumes nothing.
use Rattle.std.specs.Prelude.{ℕ, Bool, List, ℤ}
use Rattle.std.proofs.Math.Option.{Option}
-- model.rs, ConsumerId and ProducerId; entry.rs, Entry; destination.rs, Stats
pub use Rattle.model.specs.declared.Id.{Id}
pub use Rattle.entry.specs.declared.Entry.{Entry}
pub use Rattle.entry.specs.Entry.{with_redelivery}
pub use Rattle.stats.specs.declared.Stats.{Stats}

pub data Kind : Type 0 where
  queue topic : Kind

-- destination.rs, Inflight, with its key in `Sub::inflight`
pub record Inflight : Type 0 where
  pub dseq : ℕ
  pub entry : Entry
  pub freed : Bool
  pub tx : Bool

-- destination.rs, Sub
pub record Sub : Type 0 where
  pub id : Id
  pub prefetch : ℕ
  pub selector : ℕ  -- 0 to 63, 64 for none
  pub no_local : Bool
  pub browser : Option (List Entry)  -- a browser's snapshot, next first
  pub finished : Bool  -- browse_finished
  pub inflight : List Inflight  -- by rising dseq
  pub freed : ℕ
  pub next_dseq : ℕ
  pub cursor : ℕ
  pub pull : Option ℕ
  pub generation : ℕ  -- pull_generation
  pub tpending : List Entry  -- by rising seq

abbrev pub with_prefetch : ℕ → Sub → Sub
with_prefetch x s = record { id = s.id; prefetch = x; selector = s.selector; no_local = s.no_local; browser = s.browser; finished = s.finished; inflight = s.inflight; freed = s.freed; next_dseq = s.next_dseq; cursor = s.cursor; pull = s.pull; generation = s.generation; tpending = s.tpending }

abbrev pub with_browser : (Option (List Entry)) → Sub → Sub
with_browser x s = record { id = s.id; prefetch = s.prefetch; selector = s.selector; no_local = s.no_local; browser = x; finished = s.finished; inflight = s.inflight; freed = s.freed; next_dseq = s.next_dseq; cursor = s.cursor; pull = s.pull; generation = s.generation; tpending = s.tpending }

abbrev pub with_finished : Bool → Sub → Sub
with_finished x s = record { id = s.id; prefetch = s.prefetch; selector = s.selector; no_local = s.no_local; browser = s.browser; finished = x; inflight = s.inflight; freed = s.freed; next_dseq = s.next_dseq; cursor = s.cursor; pull = s.pull; generation = s.generation; tpending = s.tpending }

abbrev pub with_inflight : (List Inflight) → Sub → Sub
with_inflight x s = record { id = s.id; prefetch = s.prefetch; selector = s.selector; no_local = s.no_local; browser = s.browser; finished = s.finished; inflight = x; freed = s.freed; next_dseq = s.next_dseq; cursor = s.cursor; pull = s.pull; generation = s.generation; tpending = s.tpending }

abbrev pub with_freed : ℕ → Sub → Sub
with_freed x s = record { id = s.id; prefetch = s.prefetch; selector = s.selector; no_local = s.no_local; browser = s.browser; finished = s.finished; inflight = s.inflight; freed = x; next_dseq = s.next_dseq; cursor = s.cursor; pull = s.pull; generation = s.generation; tpending = s.tpending }

abbrev pub with_next_dseq : ℕ → Sub → Sub
with_next_dseq x s = record { id = s.id; prefetch = s.prefetch; selector = s.selector; no_local = s.no_local; browser = s.browser; finished = s.finished; inflight = s.inflight; freed = s.freed; next_dseq = x; cursor = s.cursor; pull = s.pull; generation = s.generation; tpending = s.tpending }

abbrev pub with_cursor : ℕ → Sub → Sub
with_cursor x s = record { id = s.id; prefetch = s.prefetch; selector = s.selector; no_local = s.no_local; browser = s.browser; finished = s.finished; inflight = s.inflight; freed = s.freed; next_dseq = s.next_dseq; cursor = x; pull = s.pull; generation = s.generation; tpending = s.tpending }

abbrev pub with_pull : (Option ℕ) → Sub → Sub
with_pull x s = record { id = s.id; prefetch = s.prefetch; selector = s.selector; no_local = s.no_local; browser = s.browser; finished = s.finished; inflight = s.inflight; freed = s.freed; next_dseq = s.next_dseq; cursor = s.cursor; pull = x; generation = s.generation; tpending = s.tpending }

abbrev pub with_generation : ℕ → Sub → Sub
with_generation x s = record { id = s.id; prefetch = s.prefetch; selector = s.selector; no_local = s.no_local; browser = s.browser; finished = s.finished; inflight = s.inflight; freed = s.freed; next_dseq = s.next_dseq; cursor = s.cursor; pull = s.pull; generation = x; tpending = s.tpending }

abbrev pub with_tpending : (List Entry) → Sub → Sub
with_tpending x s = record { id = s.id; prefetch = s.prefetch; selector = s.selector; no_local = s.no_local; browser = s.browser; finished = s.finished; inflight = s.inflight; freed = s.freed; next_dseq = s.next_dseq; cursor = s.cursor; pull = s.pull; generation = s.generation; tpending = x }

-- an entry of `State::reserved`, with the consumer that left
pub record Held : Type 0 where
  pub holder : Id
  pub entry : Entry

-- destination.rs, Audit, with its key in `State::audit`
pub record Audit : Type 0 where
  pub producer : Id
  pub order : List ℕ  -- as words, oldest first; `seen` is the set of these

-- destination.rs, Dest and State; the limits are document 01's, the allowance and the share document 02's
pub record Dest : Type 0 where
  pub kind : Kind
  pub topic_limit : ℕ  -- 0: off
  pub call_limit : ℕ
  pub allowance : ℕ  -- for slow clocks, in ms
  pub share : ℕ  -- of rows for each producer connection
  pub calls_used : ℕ
  pub pending : List Entry  -- by rising seq
  pub subs : List Sub
  pub rr : ℕ
  pub producers : List Id
  pub audits : List Audit
  pub stats : Stats
  pub idle : Option ℕ  -- idle_since
  pub reserved : List Held

abbrev pub with_calls_used : ℕ → Dest → Dest
with_calls_used x d = record { kind = d.kind; topic_limit = d.topic_limit; call_limit = d.call_limit; allowance = d.allowance; share = d.share; calls_used = x; pending = d.pending; subs = d.subs; rr = d.rr; producers = d.producers; audits = d.audits; stats = d.stats; idle = d.idle; reserved = d.reserved }

abbrev pub with_pending : (List Entry) → Dest → Dest
with_pending x d = record { kind = d.kind; topic_limit = d.topic_limit; call_limit = d.call_limit; allowance = d.allowance; share = d.share; calls_used = d.calls_used; pending = x; subs = d.subs; rr = d.rr; producers = d.producers; audits = d.audits; stats = d.stats; idle = d.idle; reserved = d.reserved }

abbrev pub with_subs : (List Sub) → Dest → Dest
with_subs x d = record { kind = d.kind; topic_limit = d.topic_limit; call_limit = d.call_limit; allowance = d.allowance; share = d.share; calls_used = d.calls_used; pending = d.pending; subs = x; rr = d.rr; producers = d.producers; audits = d.audits; stats = d.stats; idle = d.idle; reserved = d.reserved }

abbrev pub with_rr : ℕ → Dest → Dest
with_rr x d = record { kind = d.kind; topic_limit = d.topic_limit; call_limit = d.call_limit; allowance = d.allowance; share = d.share; calls_used = d.calls_used; pending = d.pending; subs = d.subs; rr = x; producers = d.producers; audits = d.audits; stats = d.stats; idle = d.idle; reserved = d.reserved }

abbrev pub with_producers : (List Id) → Dest → Dest
with_producers x d = record { kind = d.kind; topic_limit = d.topic_limit; call_limit = d.call_limit; allowance = d.allowance; share = d.share; calls_used = d.calls_used; pending = d.pending; subs = d.subs; rr = d.rr; producers = x; audits = d.audits; stats = d.stats; idle = d.idle; reserved = d.reserved }

abbrev pub with_audits : (List Audit) → Dest → Dest
with_audits x d = record { kind = d.kind; topic_limit = d.topic_limit; call_limit = d.call_limit; allowance = d.allowance; share = d.share; calls_used = d.calls_used; pending = d.pending; subs = d.subs; rr = d.rr; producers = d.producers; audits = x; stats = d.stats; idle = d.idle; reserved = d.reserved }

abbrev pub with_stats : Stats → Dest → Dest
with_stats x d = record { kind = d.kind; topic_limit = d.topic_limit; call_limit = d.call_limit; allowance = d.allowance; share = d.share; calls_used = d.calls_used; pending = d.pending; subs = d.subs; rr = d.rr; producers = d.producers; audits = d.audits; stats = x; idle = d.idle; reserved = d.reserved }

abbrev pub with_idle : (Option ℕ) → Dest → Dest
with_idle x d = record { kind = d.kind; topic_limit = d.topic_limit; call_limit = d.call_limit; allowance = d.allowance; share = d.share; calls_used = d.calls_used; pending = d.pending; subs = d.subs; rr = d.rr; producers = d.producers; audits = d.audits; stats = d.stats; idle = x; reserved = d.reserved }

abbrev pub with_reserved : (List Held) → Dest → Dest
with_reserved x d = record { kind = d.kind; topic_limit = d.topic_limit; call_limit = d.call_limit; allowance = d.allowance; share = d.share; calls_used = d.calls_used; pending = d.pending; subs = d.subs; rr = d.rr; producers = d.producers; audits = d.audits; stats = d.stats; idle = d.idle; reserved = x }

-- what a call sends
pub data Event : Type 0 where
  letter : ℕ → ℤ → Bool → Event  -- `x`: sequence, redelivery, whether the cause is the client's
  message : Id → ℕ → ℤ → Event  -- `d`: sequence, redelivery
  null : Id → Event  -- `n`
