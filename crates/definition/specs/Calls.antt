-- The calls of document 01, with their refusals in the order of checking, and what a sound state is. Assumes nothing.
use Rattle.std.specs.Prelude.{ℕ, ◌+◌, ◌-◌, ◌*◌, ◌^◌, Bool, true, not, ◌&&◌, ◌||◌, List, [], ◌∷◌, ◌++◌, map, leb, ltb, eqb, length, ℤ, pos, negsuc}
use Rattle.std.proofs.Math.Option.{Option, none, some}
use Rattle.audit.specs.Audit.{audit_window}
use Rattle.definition.specs.Base.{whether◌then◌else◌, find, tally, all, every, empty, member, distinct, ascending, is_some}
use Rattle.definition.specs.Types.{Kind, queue, topic, Id, Entry, Sub, Stats, Audit, Dest, Event, with_calls_used}
use Rattle.definition.specs.Consumer.{same_id, zero_stats, add_discarded, add_expired, expired, accepts, selects, Ack, is_browser, snapshot}
use Rattle.definition.specs.Destination.{Answer, Spec, sub_of, count, due, enqueue, add_sub, set_prefetch, ack, pull, pull_timeout, remove_sub, unmarked, return_reserved, sweep_expired, clear, is_producer, add_producer, remove_producer, audit_of, is_duplicate, release_audits}

-- ---- lent buffers

-- how many words, consumers, rows and events the lent buffers hold
pub record Lengths : Type 0 where
  pub head : ℕ
  pub subs : ℕ
  pub rows : ℕ
  pub events : ℕ

-- a state buffer is short: docs/LAYOUT.md has the sizes
unfoldable pub state_short : Lengths → Bool
state_short l = ltb l.head 8347 || (ltb l.subs 32 || ltb l.rows 512)

-- refusal 1, of a call that may send
unfoldable pub short : Lengths → Bool
short l = state_short l || ltb l.events 545

-- ---- ranges

abbrev pub word : ℕ → Bool
word k = ltb k (2 ^ 64)

abbrev pub signed_within : ℕ → ℤ → Bool
signed_within half (pos k) = ltb k half
signed_within half (negsuc k) = ltb k half

abbrev pub clock_ok : ℕ → Bool
clock_ok k = leb k (2 ^ 62)

abbrev pub id_ok : Id → Bool
id_ok i = word i.conn && (signed_within (2 ^ 63) i.session && signed_within (2 ^ 63) i.value)

abbrev pub optional : (ℕ → Bool) → Option ℕ → Bool
optional p none = true
optional p (some k) = p k

abbrev pub entry_ok : Entry → Bool
entry_ok e = every (leb 1 e.seq ∷ ltb e.seq (2 ^ 63) ∷ signed_within (2 ^ 63) e.expiration ∷ word e.producer ∷ word e.match_word ∷ signed_within (2 ^ 31) e.redelivery ∷ ltb e.size (2 ^ 32) ∷ [])

-- ---- sound

-- no counter, delivery number or generation is above it
abbrev pub bound : ℕ → ℕ
bound used = 65536 * used + 1

abbrev pub seqs : List Entry → List ℕ
seqs es = map (λ e. e.seq) es

abbrev pub flying : Sub → List Entry
flying s = map (λ i. i.entry) s.inflight

-- one consumer's rows
abbrev pub rows_of : Sub → List Entry
rows_of s = flying s ++ (s.tpending ++ snapshot s)

abbrev pub sub_placed : Sub → Kind → Bool
sub_placed s queue = empty s.tpending
sub_placed s topic = empty (snapshot s)

abbrev pub sub_tests : Kind → ℕ → Sub → List Bool
sub_tests k used s =
    id_ok s.id
    ∷ ltb s.prefetch (2 ^ 31)
    ∷ leb s.selector 64
    ∷ all entry_ok (rows_of s)
    ∷ ltb s.cursor (2 ^ 63)
    ∷ distinct (seqs (rows_of s))
    ∷ eqb s.freed (tally (λ i. i.freed) s.inflight)
    ∷ ascending (map (λ i. i.dseq) s.inflight ++ s.next_dseq ∷ [])
    ∷ ascending (seqs s.tpending)
    ∷ leb s.next_dseq (bound used)
    ∷ leb s.generation (bound used)
    ∷ optional (λ g. leb g (bound used)) s.pull
    ∷ sub_placed s k
    ∷ []

unfoldable pub sub_sound : Kind → ℕ → Sub → Bool
sub_sound k used s = every (sub_tests k used s)

-- the rows of consumers, by place
abbrev pub consumer_rows : List Sub → List Entry
consumer_rows [] = []
consumer_rows (s ∷ ss) = rows_of s ++ consumer_rows ss

-- a queue's entries in flight, browsers' copies apart
abbrev pub taken : List Sub → List Entry
taken [] = []
taken (s ∷ ss) = (whether is_browser s then [] else flying s) ++ taken ss

abbrev pub held : Dest → List Entry
held t = map (λ h. h.entry) t.reserved

abbrev pub all_rows : Dest → List Entry
all_rows t = t.pending ++ (held t ++ consumer_rows t.subs)

abbrev pub distinct_ids : List Sub → Bool
distinct_ids [] = true
distinct_ids (s ∷ ss) = all (λ r. not (same_id r.id s.id)) ss && distinct_ids ss

abbrev pub counters_ok : ℕ → Stats → Bool
counters_ok most c = every (leb c.enqueued most ∷ leb c.dequeued most ∷ leb c.expired most ∷ leb c.discarded most ∷ leb c.dispatched most ∷ [])

abbrev pub placed : Dest → Kind → Bool
placed t queue = distinct (seqs (t.pending ++ (held t ++ taken t.subs)))
placed t topic = empty t.pending && empty t.reserved

abbrev pub audit_ok : Audit → Bool
audit_ok a = every (id_ok a.producer ∷ leb (length a.order) audit_window ∷ all word a.order ∷ [])

-- copies with one sequence number agree on the size
abbrev pub sizes_agree : List Entry → Bool
sizes_agree [] = true
sizes_agree (e ∷ es) = all (λ f. not (eqb e.seq f.seq) || eqb e.size f.size) es && sizes_agree es

-- the rows that belong to producer connections: copies of a queue's browsers belong to none, a topic's count as any consumer's
abbrev pub own_rows : Dest → Kind → List Entry
own_rows t queue = t.pending ++ (held t ++ taken t.subs)
own_rows t topic = all_rows t

-- those of one connection
abbrev pub rows_from : ℕ → List Entry → ℕ
rows_from c l = tally (λ e. eqb c e.producer) l

-- no connection holds more than the share
abbrev pub within_share : ℕ → List Entry → Bool
within_share share l = all (λ e. leb (rows_from e.producer l) share) l

abbrev pub sound_tests : Dest → List Bool
sound_tests t =
    leb 1 t.call_limit
    ∷ leb t.call_limit (2 ^ 40)
    ∷ leb t.calls_used t.call_limit
    ∷ leb t.topic_limit 512
    ∷ leb (length t.subs) 32
    ∷ leb (length t.producers) 32
    ∷ all id_ok t.producers
    ∷ leb (length (all_rows t)) 512
    ∷ all entry_ok (t.pending ++ held t)
    ∷ all (λ h. id_ok h.holder) t.reserved
    ∷ ascending (seqs t.pending)
    ∷ all (sub_sound t.kind t.calls_used) t.subs
    ∷ distinct_ids t.subs
    ∷ placed t t.kind
    ∷ (ltb t.rr (length t.subs) || eqb t.rr 0)
    ∷ counters_ok (bound t.calls_used) t.stats
    ∷ optional clock_ok t.idle
    ∷ leb (length t.audits) 8
    ∷ all audit_ok t.audits
    ∷ leb t.allowance 86400000
    ∷ sizes_agree (all_rows t)
    ∷ leb 1 t.share
    ∷ leb t.share 512
    ∷ within_share t.share (own_rows t t.kind)
    ∷ []

unfoldable pub sound : Dest → Bool
sound t = every (sound_tests t)

-- ---- calls

-- codes 4 to 7: what a consumer asks
pub data Request : Type 0 where
  acknowledge : Ack → ℕ → Request  -- the ack, clock
  pulling : ℤ → ℕ → Request  -- timeout, clock
  timed_out : ℕ → Request  -- generation
  prefetching : ℤ → ℕ → Request  -- prefetch, clock

pub data Call : Type 0 where
  enqueuing : Entry → ℕ → Call
  joining : Spec → ℕ → Call
  leaving : Id → ℤ → ℕ → Call  -- last delivered, clock
  asking : Id → Request → Call
  -- release, in two halves
  unmarking : Id → Call
  releasing : Id → ℕ → Call
  sweeping : ℕ → ℕ → Call  -- clock, maximum
  clearing : Call
  adding : Id → Call
  removing : Id → ℕ → Call
  testing : Id → ℕ → Call
  forgetting : ℕ → Call
  -- add_discarded and expired_before_storing, which have no code
  discarding : Call
  missing : Call

-- what a call brings: an enqueue's entry
abbrev pub brought : Call → List Entry
brought (enqueuing e now) = e ∷ []
brought (joining p now) = []
brought (leaving i last now) = []
brought (asking i q) = []
brought (unmarking i) = []
brought (releasing i now) = []
brought (sweeping now most) = []
brought clearing = []
brought (adding i) = []
brought (removing i now) = []
brought (testing i q) = []
brought (forgetting conn) = []
brought discarding = []
brought missing = []

-- the refusal (0: accepted), the answer, the events, and the state
pub record Result : Type 0 where
  pub refusal : ℕ
  pub answer : ℕ
  pub events : List Event
  pub dest : Dest

abbrev pub refused : ℕ → Dest → Result
refused k t = record { refusal = k; answer = 0; events = []; dest = t }

abbrev pub used : Dest → Dest
used t = with_calls_used (t.calls_used + 1) t

abbrev pub ack_ok : Ack → Bool
ack_ok a = ltb a.type 256 && (optional word a.first && optional word a.last)

abbrev pub request_ok : Request → Bool
request_ok (acknowledge a now) = ack_ok a && clock_ok now
request_ok (pulling timeout now) = signed_within (2 ^ 63) timeout && clock_ok now
request_ok (timed_out generation) = word generation
request_ok (prefetching p now) = signed_within (2 ^ 31) p && clock_ok now

abbrev pub spec_ok : Spec → Bool
spec_ok p = id_ok p.id && (signed_within (2 ^ 31) p.prefetch && leb p.selector 64)

unfoldable pub arguments_ok : Call → Bool
arguments_ok (enqueuing e now) = entry_ok e && clock_ok now
arguments_ok (joining p now) = spec_ok p && clock_ok now
arguments_ok (leaving i last now) = id_ok i && (signed_within (2 ^ 63) last && clock_ok now)
arguments_ok (asking i q) = id_ok i && request_ok q
arguments_ok (unmarking i) = id_ok i
arguments_ok (releasing i now) = id_ok i && clock_ok now
arguments_ok (sweeping now most) = clock_ok now && leb most 512
arguments_ok clearing = true
arguments_ok (adding i) = id_ok i
arguments_ok (removing i now) = id_ok i && clock_ok now
arguments_ok (testing i q) = id_ok i && word q
arguments_ok (forgetting conn) = word conn
arguments_ok discarding = true
arguments_ok missing = true

abbrev pub free_rows : Dest → ℕ
free_rows t = 512 - length (all_rows t)

abbrev pub rows_for : Entry → Dest → Kind → ℕ
rows_for e t queue = 1
rows_for e t topic = tally (λ s. accepts s e) t.subs

abbrev pub snapshot_rows : ℕ → Spec → Dest → ℕ
snapshot_rows now p t = whether p.browser then tally (λ e. not (expired (pos (due now t)) e) && selects e.match_word p.selector) t.pending else 0

-- with an enqueue's rows its connection holds more than a share below 512
abbrev pub over_share : Entry → Dest → Bool
over_share e t = ltb t.share 512 && ltb t.share (rows_from e.producer (own_rows t t.kind) + rows_for e t t.kind)

-- the refusals that are one call's own; 0 for none
unfoldable pub own_refusal : Dest → Call → ℕ
own_refusal t (enqueuing e now) =
    whether member e.seq (seqs (all_rows t)) then 4
    else whether over_share e t then 14
    else whether ltb (free_rows t) (rows_for e t t.kind) then 5
    else 0
own_refusal t (joining p now) =
    whether is_some (sub_of p.id t) then 6
    else whether leb 32 (length t.subs) then 7
    else whether ltb (free_rows t) (snapshot_rows now p t) then 5
    else 0
own_refusal t (leaving i last now) = 0
own_refusal t (asking i q) = 0
own_refusal t (unmarking i) = 0
own_refusal t (releasing i now) = 0
own_refusal t (sweeping now most) = 0
own_refusal t clearing = 0
own_refusal t (adding i) = whether not (is_producer i t.producers) && leb 32 (length t.producers) then 8 else 0
own_refusal t (removing i now) = 0
own_refusal t (testing i q) = whether not (eqb i.conn 0) && (not (is_some (find (audit_of i) t.audits)) && leb 8 (length t.audits)) then 8 else 0
own_refusal t (forgetting conn) = 0
own_refusal t discarding = 0
own_refusal t missing = 0

unfoldable pub ask : Id → Dest → Request → Answer
ask i t (acknowledge a now) = let r = ack now i a t in record { answer = 0; dest = r.dest; events = r.events }
ask i t (pulling timeout now) = pull now i timeout t
ask i t (timed_out generation) = let r = pull_timeout i generation t in record { answer = 0; dest = r.dest; events = r.events }
ask i t (prefetching p now) = let r = set_prefetch now i p t in record { answer = 0; dest = r.dest; events = r.events }

unfoldable pub perform : Dest → Call → Answer
perform t (enqueuing e now) = let r = enqueue now e t in record { answer = 0; dest = r.dest; events = r.events }
perform t (joining p now) = let r = add_sub now p t in record { answer = 0; dest = r.dest; events = r.events }
perform t (leaving i last now) = remove_sub now i last t
perform t (asking i q) = ask i t q
perform t (unmarking i) = record { answer = 0; dest = unmarked i t; events = [] }
perform t (releasing i now) = let r = return_reserved now i t in record { answer = 0; dest = r.dest; events = r.events }
perform t (sweeping now most) = sweep_expired now most t
perform t clearing = clear t
perform t (adding i) = record { answer = 0; dest = add_producer i t; events = [] }
perform t (removing i now) = record { answer = 0; dest = remove_producer now i t; events = [] }
perform t (testing i q) = let r = is_duplicate i q t in whether eqb i.conn 0 then record { answer = 0; dest = t; events = [] } else r
perform t (forgetting conn) = record { answer = 0; dest = release_audits conn t; events = [] }
perform t discarding = record { answer = 0; dest = count (add_discarded 1) t; events = [] }
perform t missing = record { answer = 0; dest = count (add_expired 1) t; events = [] }

-- the refusal of a call that is on lent buffers of these lengths
unfoldable pub refusal : Lengths → Call → Dest → ℕ
refusal lent c t =
    whether short lent then 1
    else whether not (sound t) then 2
    else whether not (arguments_ok c) then 3
    else whether eqb t.calls_used t.call_limit then 9
    else own_refusal t c

unfoldable pub call : Lengths → Call → Dest → Result
call lent c t =
    let r = perform t c in
    let done : Result = record { refusal = 0; answer = r.answer; events = r.events; dest = used r.dest } in
    whether eqb (refusal lent c t) 0 then done else refused (refusal lent c t) t

-- ---- open

abbrev pub open_ok : Kind → ℕ → ℕ → ℕ → ℕ → ℕ → Bool
open_ok k topic_limit call_limit now allowance share = every (leb topic_limit 512 ∷ leb 1 call_limit ∷ leb call_limit (2 ^ 40) ∷ clock_ok now ∷ leb allowance 86400000 ∷ leb 1 share ∷ leb share 512 ∷ [])

abbrev pub opened : Kind → ℕ → ℕ → ℕ → ℕ → ℕ → Dest
opened k topic_limit call_limit now allowance share = record {
  kind = k;
  topic_limit = topic_limit;
  call_limit = call_limit;
  allowance = allowance;
  share = share;
  calls_used = 0;
  pending = [];
  subs = [];
  rr = 0;
  producers = [];
  audits = [];
  stats = zero_stats;
  idle = some now;
  reserved = [];
}

-- opens the definitions of this file
unfoldable pub calls_open : Unit {0}
unfolding state_short short sub_sound sound arguments_ok own_refusal ask perform refusal call
calls_open = tt
