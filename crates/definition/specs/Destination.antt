-- The destination: `impl Dest` of destination.rs. A call's clock is `now`; the clock that entries expire by is `by`: `due now`, the call's less the allowance. Assumes nothing.
use Rattle.std.specs.Prelude.{ℕ, zero, suc, ◌+◌, ◌-◌, ◌%◌, min, Bool, true, false, not, ◌&&◌, ◌||◌, List, [], ◌∷◌, ◌++◌, map, leb, ltb, eqb, length, set, drop, ℤ, pos, negsuc}
use Rattle.std.proofs.Math.Option.{Option, none, some}
use Rattle.std.specs.Int.Signed.{lt_z, le_z}
use Rattle.definition.specs.Base.{whether◌then◌else◌, keep, tally, find, put, nth, empty, up_from}
use Rattle.audit.specs.Audit.{seen, recorded}
use Rattle.definition.specs.Types.{Kind, queue, topic, Id, Entry, Inflight, Sub, Stats, Held, Audit, Dest, Event, letter, null, with_prefetch, with_inflight, with_freed, with_cursor, with_pull, with_generation, with_browser, with_tpending, with_pending, with_subs, with_rr, with_producers, with_audits, with_stats, with_idle, with_reserved}
use Rattle.definition.specs.Consumer.{same_id, expired, zero_stats, ◌⊕◌, add_enqueued, add_dequeued, add_expired, add_discarded, add_dispatched, Step, is_browser, has_credit, accepts, selects, send, sent, send_null, redelivered, AckType, Delivered, Poison, Standard, Redelivered, Individual, Unmatched, Expired, Other, ack_type, Ack, ack_sub, serve_topic, Browse, dispatch_browser}

-- what a part of a call leaves: the destination, what it sends
pub record Out : Type 0 where
  pub dest : Dest
  pub events : List Event

-- counters added to those of the destination (`stats`)
abbrev pub count : Stats → Dest → Dest
count c t = with_stats (t.stats ⊕ c) t

abbrev pub is_id : Id → Sub → Bool
is_id i s = same_id s.id i

-- `subs.iter().find(|s| &s.id == id)`
abbrev pub sub_of : Id → Dest → Option Sub
sub_of i t = find (is_id i) t.subs

-- the destination with s in the place of the consumer i
abbrev pub put_sub : Id → Sub → Dest → Dest
put_sub i s t = with_subs (put (is_id i) s t.subs) t

-- BTreeMap::insert, by sequence number
abbrev pub insert : Entry → List Entry → List Entry
insert e [] = e ∷ []
insert e (f ∷ fs) =
    whether ltb e.seq f.seq then e ∷ f ∷ fs
    else whether eqb e.seq f.seq then e ∷ fs
    else f ∷ insert e fs

-- ---- dispatch

-- the earliest entry after the cursor that the consumer accepts, with the expired ones before it gone
pub record Look : Type 0 where
  pub pending : List Entry
  pub chosen : Option Entry
  pub cursor : ℕ
  pub gone : ℕ

-- the entry stays on the queue
abbrev pub passing : Entry → Look → Look
passing e l = record { pending = e ∷ l.pending; chosen = l.chosen; cursor = l.cursor; gone = l.gone }

-- one more has expired
abbrev pub losing : Look → Look
losing l = record { pending = l.pending; chosen = l.chosen; cursor = l.cursor; gone = l.gone + 1 }

-- Dest::dispatch_queue: `for (seq, e) in pending.range(sub.cursor + 1..)`
unfoldable pub look : ℕ → Sub → ℕ → List Entry → Look
look by s c [] = record { pending = []; chosen = none; cursor = c; gone = 0 }
look by s c (e ∷ es) =
    let before = passing e (look by s c es) in
    let late = losing (look by s c es) in
    let refused = passing e (look by s e.seq es) in
    whether leb e.seq s.cursor then before
    else whether expired (pos by) e then late
    else whether accepts s e then record { pending = es; chosen = some e; cursor = e.seq; gone = 0 }
    else refused

-- a consumer's turn in the scan: whether it took an entry, and what that leaves
pub record Turn : Type 0 where
  pub took : Bool
  pub dest : Dest
  pub events : List Event

-- the queue and its counters after the look
abbrev pub looked : Look → Dest → Dest
looked l t = count (add_expired l.gone) (with_pending l.pending t)

-- if let Some(seq) = chosen
unfoldable pub given : ℕ → Sub → Look → Dest → Option Entry → Turn
given i s l t none = record { took = false; dest = with_subs (set t.subs i (with_cursor l.cursor s)) (looked l t); events = [] }
given i s l t (some e) = record {
  took = true;
  dest = with_rr ((i + 1) % length t.subs) (count (add_dispatched 1) (with_subs (set t.subs i (send e (with_cursor l.cursor s))) (looked l t)));
  events = sent s e ∷ [];
}

-- Dest::dispatch_queue: one k of `for k in 0..n`
unfoldable pub visit_at : ℕ → ℕ → Dest → Option Sub → Turn
visit_at by i t none = record { took = false; dest = t; events = [] }
visit_at by i t (some s) =
    let l = look by s s.cursor t.pending in
    whether is_browser s || not (has_credit s) then record { took = false; dest = t; events = [] } else given i s l t l.chosen

unfoldable pub visit : ℕ → ℕ → Dest → Turn
visit by i t = visit_at by i t (nth i t.subs)

-- the scan over consumers stops at the first that takes an entry
unfoldable pub scan : ℕ → List ℕ → Dest → Turn
scan by [] t = record { took = false; dest = t; events = [] }
scan by (i ∷ is) t =
    let here = visit by i t in
    let later = scan by is here.dest in
    whether here.took then here else later

-- for k in 0..n: (rr + k) % n
abbrev pub turns : Dest → List ℕ
turns t = map (λ k. k % length t.subs) (up_from t.rr (length t.subs))

-- the scan starts again after each entry taken; each takes one off the queue
unfoldable pub rounds : ℕ → ℕ → Dest → Out
rounds zero by t = record { dest = t; events = [] }
rounds (suc fuel) by t =
    let here = scan by (turns t) t in
    let later = rounds fuel by here.dest in
    whether not here.took || empty here.dest.pending then record { dest = here.dest; events = here.events }
    else record { dest = later.dest; events = here.events ++ later.events }

-- browsers are served from their own snapshot
pub record Browsed : Type 0 where
  pub subs : List Sub
  pub pending : List Entry
  pub counts : Stats
  pub events : List Event

-- Dest::dispatch_queue: `for sub in subs.iter_mut().filter(|s| s.browser.is_some())`
unfoldable pub browsers : ℕ → List Sub → List Entry → Browsed
browsers by [] pending = record { subs = []; pending = pending; counts = zero_stats; events = [] }
browsers by (s ∷ ss) pending =
    let b : Browse = whether is_browser s then dispatch_browser by pending s else record { sub = s; pending = pending; counts = zero_stats; events = [] } in
    let r = browsers by ss b.pending in
    record { subs = b.sub ∷ r.subs; pending = r.pending; counts = b.counts ⊕ r.counts; events = b.events ++ r.events }

-- Dest::dispatch_queue
unfoldable pub dispatch_queue : ℕ → Dest → Out
dispatch_queue by t =
    whether empty t.subs then record { dest = t; events = [] }
    else
    let b = browsers by t.subs t.pending in
    let r = rounds (suc (length b.pending)) by (count b.counts (with_pending b.pending (with_subs b.subs t))) in
    record { dest = r.dest; events = b.events ++ r.events }

-- what serving each consumer of a topic leaves
pub record Served : Type 0 where
  pub subs : List Sub
  pub counts : Stats
  pub events : List Event

-- Dest::dispatch_topic: `for sub in subs.iter_mut()`
unfoldable pub serve_all : ℕ → List Sub → Served
serve_all by [] = record { subs = []; counts = zero_stats; events = [] }
serve_all by (s ∷ ss) =
    let a = serve_topic by s in
    let r = serve_all by ss in
    record { subs = a.sub ∷ r.subs; counts = a.counts ⊕ r.counts; events = a.events ++ r.events }

-- Dest::dispatch_topic
unfoldable pub dispatch_topic : ℕ → Dest → Out
dispatch_topic by t = let r = serve_all by t.subs in record { dest = count r.counts (with_subs r.subs t); events = r.events }

-- Dest::dispatch
unfoldable pub dispatch_by : ℕ → Dest → Kind → Out
dispatch_by by t queue = dispatch_queue by t
dispatch_by by t topic = dispatch_topic by t

-- the clock that entries expire by: the call's clock less the allowance, or 0 where that is below 0
abbrev pub due : ℕ → Dest → ℕ
due now t = now - t.allowance

-- Dest::dispatch
abbrev pub dispatch : ℕ → Dest → Out
dispatch now t = dispatch_by (due now t) t t.kind

-- `idle_since`, set if it is absent
abbrev pub idle_mark : ℕ → Option ℕ → Option ℕ
idle_mark now none = some now
idle_mark now (some k) = some k

-- Dest::touch_idle
unfoldable pub touch_idle : ℕ → Dest → Dest
touch_idle now t =
    whether empty t.pending && (empty t.subs && empty t.producers) then with_idle (idle_mark now t.idle) t
    else with_idle none t

-- ---- enqueue

-- `sub.cursor = sub.cursor.min(seq - 1)`
abbrev pub hold_back : ℕ → Sub → Sub
hold_back seq s = with_cursor (min s.cursor (seq - 1)) s

-- what a consumer's waiting list keeps, and what that adds to the counters
pub record Trimmed : Type 0 where
  pub list : List Entry
  pub counts : Stats

-- a list over the limit first loses all that have expired, and then the lowest numbers while it is over (document 02 §5); limit 0 is off
unfoldable pub trim : ℕ → ℕ → List Entry → Trimmed
trim by limit l =
    let live = keep (λ e. not (expired (pos by) e)) l in
    let over = length live - limit in
    whether eqb limit 0 || leb (length l) limit then record { list = l; counts = zero_stats }
    else record { list = drop over live; counts = add_expired (tally (expired (pos by)) l) ⊕ add_discarded over }

-- the copy for one consumer of a topic, and what is surplus gone
unfoldable pub fan_out : ℕ → ℕ → Entry → Sub → Step
fan_out by limit e s =
    let r = trim by limit (insert e s.tpending) in
    whether accepts s e then record { sub = with_tpending r.list s; counts = r.counts; events = [] }
    else record { sub = s; counts = zero_stats; events = [] }

-- Dest::enqueue on a topic: `for sub in st.subs.iter_mut()`
unfoldable pub fan_out_all : ℕ → ℕ → Entry → List Sub → Served
fan_out_all by limit e [] = record { subs = []; counts = zero_stats; events = [] }
fan_out_all by limit e (s ∷ ss) =
    let a = fan_out by limit e s in
    let r = fan_out_all by limit e ss in
    record { subs = a.sub ∷ r.subs; counts = a.counts ⊕ r.counts; events = [] }

-- stored (queue)
abbrev pub stored : Entry → Dest → Dest
stored e t = with_idle none (with_pending (insert e t.pending) (with_subs (map (hold_back e.seq) t.subs) (count (add_enqueued 1) t)))

-- fanned out (topic), by the clock that entries expire by
abbrev pub fanned_out : ℕ → Entry → Dest → Dest
fanned_out by e t = let r = fan_out_all by t.topic_limit e t.subs in count r.counts (with_subs r.subs (count (add_enqueued 1) t))

-- Dest::enqueue
unfoldable pub enqueue_by : ℕ → Entry → Dest → Kind → Out
enqueue_by now e t queue = dispatch_queue (due now t) (stored e t)
enqueue_by now e t topic = dispatch_topic (due now t) (fanned_out (due now t) e t)

-- Dest::enqueue
abbrev pub enqueue : ℕ → Entry → Dest → Out
enqueue now e t = enqueue_by now e t t.kind

-- ---- subscriptions

-- SubSpec
pub record Spec : Type 0 where
  pub id : Id
  pub prefetch : ℤ
  pub selector : ℕ
  pub no_local : Bool
  pub browser : Bool

-- prefetch.max(0)
abbrev pub room : ℤ → ℕ
room (pos k) = k
room (negsuc k) = 0

-- Sub::new
abbrev pub new_sub : Spec → Option (List Entry) → Sub
new_sub p browser = record {
  id = p.id;
  prefetch = room p.prefetch;
  selector = p.selector;
  no_local = p.no_local;
  browser = browser;
  finished = false;
  inflight = [];
  freed = 0;
  next_dseq = 1;
  cursor = 0;
  pull = none;
  generation = 0;
  tpending = [];
}

-- the consumer in its place, before the dispatch; a browser has its snapshot, and what had expired is gone
abbrev pub joined : ℕ → Spec → Dest → Dest
joined now p t =
    let live = keep (λ e. not (expired (pos (due now t)) e)) t.pending in
    let chosen = keep (λ e. selects e.match_word p.selector) live in
    let browsed = count (add_expired (tally (expired (pos (due now t))) t.pending)) (with_pending live t) in
    with_idle none (whether p.browser then with_subs (t.subs ++ new_sub p (some chosen) ∷ []) browsed else with_subs (t.subs ++ new_sub p none ∷ []) t)

-- Dest::add_sub
unfoldable pub add_sub : ℕ → Spec → Dest → Out
add_sub now p t = dispatch now (joined now p t)

-- Dest::set_prefetch: the consumer, if it is there
abbrev pub prefetch_at : Id → ℤ → Dest → Option Sub → Dest
prefetch_at i p t none = t
prefetch_at i p t (some s) = put_sub i (with_prefetch (room p) s) t

-- Dest::set_prefetch
unfoldable pub set_prefetch : ℕ → Id → ℤ → Dest → Out
set_prefetch now i p t = dispatch now (prefetch_at i p t (sub_of i t))

-- ---- entries that return

-- each stored again, in order
abbrev pub insert_all : List Entry → List Entry → List Entry
insert_all [] p = p
insert_all (e ∷ es) p = insert_all es (insert e p)

-- cursor.min(min_seq - 1), for each entry that is stored again
abbrev pub hold_back_all : List Entry → Sub → Sub
hold_back_all [] s = s
hold_back_all (e ∷ es) s = hold_back_all es (hold_back e.seq s)

-- Dest::reinsert
unfoldable pub reinsert : ℕ → List Entry → Dest → Dest
reinsert now es t =
    let live = keep (λ e. not (expired (pos (due now t)) e)) es in
    count (add_expired (tally (expired (pos (due now t))) es)) (with_pending (insert_all live t.pending) (with_subs (map (hold_back_all live) t.subs) t))

-- ---- reserved entries

-- reserved for the consumer i
abbrev pub held_by : Id → Held → Bool
held_by i h = same_id h.holder i

-- `reserved.get(cid)`
abbrev pub reserved_of : Id → Dest → List Entry
reserved_of i t = map (λ h. h.entry) (keep (held_by i) t.reserved)

abbrev pub at_least : Option ℕ → ℕ → Bool
at_least none q = true
at_least (some f) q = leb f q

-- the hits of ack_reserved, by type
unfoldable pub reserved_hit : Option ℕ → ℕ → Entry → AckType → Bool
reserved_hit first last e Standard = leb e.seq last
reserved_hit first last e Unmatched = leb e.seq last
reserved_hit first last e Individual = eqb e.seq last
reserved_hit first last e Poison = leb e.seq last && at_least first e.seq
reserved_hit first last e Expired = leb e.seq last && at_least first e.seq
reserved_hit first last e Delivered = false
reserved_hit first last e Redelivered = false
reserved_hit first last e Other = false

-- the dead letters of persistent entries, with the default cause
abbrev pub letters : List Entry → List Event
letters [] = []
letters (e ∷ es) = whether e.persistent then letter e.seq e.redelivery false ∷ letters es else letters es

-- Dest::ack_reserved: what the taken add to the counters, by type
unfoldable pub reserved_counts : List Entry → AckType → Stats
reserved_counts taken Poison = add_discarded (tally (λ e. not e.persistent) taken)
reserved_counts taken Expired = add_expired (length taken)
reserved_counts taken Standard = add_dequeued (length taken)
reserved_counts taken Unmatched = add_dequeued (length taken)
reserved_counts taken Individual = add_dequeued (length taken)
reserved_counts taken Delivered = add_dequeued (length taken)
reserved_counts taken Redelivered = add_dequeued (length taken)
reserved_counts taken Other = add_dequeued (length taken)

-- Dest::ack_reserved: the dead letters, by type
unfoldable pub reserved_events : List Entry → AckType → List Event
reserved_events taken Poison = letters taken
reserved_events taken Delivered = []
reserved_events taken Standard = []
reserved_events taken Redelivered = []
reserved_events taken Individual = []
reserved_events taken Unmatched = []
reserved_events taken Expired = []
reserved_events taken Other = []

-- Dest::ack_reserved, by the last number if there is one
unfoldable pub ack_reserved : Id → Ack → Dest → Option ℕ → Out
ack_reserved i a t none = record { dest = t; events = [] }
ack_reserved i a t (some last) =
    let taken = keep (λ e. reserved_hit a.first last e (ack_type a.type)) (reserved_of i t) in
    record {
      dest = count (reserved_counts taken (ack_type a.type)) (with_reserved (keep (λ h. not (held_by i h && reserved_hit a.first last h.entry (ack_type a.type))) t.reserved) t);
      events = reserved_events taken (ack_type a.type);
    }

-- ---- acknowledgements

-- Dest::ack: an absent consumer's reserved entries, or the consumer itself
unfoldable pub ack_at : ℕ → Id → Ack → Dest → Option Sub → Out
ack_at now i a t none =
    let k = ack_reserved i a t a.last in
    let r = dispatch now (touch_idle now k.dest) in
    whether a.transacted || empty (reserved_of i t) then record { dest = t; events = [] }
    else record { dest = r.dest; events = k.events ++ r.events }
ack_at now i a t (some s) =
    let k = ack_sub a s in
    let r = dispatch now (touch_idle now (count k.counts (put_sub i k.sub t))) in
    record { dest = r.dest; events = k.events ++ r.events }

-- Dest::ack
unfoldable pub ack : ℕ → Id → Ack → Dest → Out
ack now i a t = ack_at now i a t (sub_of i t)

-- ---- pull

pub record Answer : Type 0 where
  pub answer : ℕ
  pub dest : Dest
  pub events : List Event

-- match sub.pull, after the dispatch
unfoldable pub pulled : Id → ℤ → Sub → Out → Option ℕ → Answer
pulled i timeout s r none = record { answer = 0; dest = r.dest; events = r.events }
pulled i timeout s r (some g) =
    whether lt_z timeout (pos 0) then record { answer = 0; dest = put_sub i (send_null s) r.dest; events = r.events ++ null s.id ∷ [] }
    else whether lt_z (pos 0) timeout then record { answer = g; dest = r.dest; events = r.events }
    else record { answer = 0; dest = r.dest; events = r.events }

-- let sub = &mut st.subs[pos], once more
unfoldable pub resumed : Id → ℤ → Out → Option Sub → Answer
resumed i timeout r none = record { answer = 0; dest = r.dest; events = r.events }
resumed i timeout r (some s) = pulled i timeout s r s.pull

-- Dest::pull: the consumer, if it is there
unfoldable pub pull_at : ℕ → Id → ℤ → Dest → Option Sub → Answer
pull_at now i timeout t none = record { answer = 0; dest = t; events = [] }
pull_at now i timeout t (some s) =
    let r = dispatch now (put_sub i (with_pull (some (s.generation + 1)) (with_generation (s.generation + 1) s)) t) in
    whether ltb 0 s.prefetch then record { answer = 0; dest = t; events = [] } else resumed i timeout r (sub_of i r.dest)

-- Dest::pull
unfoldable pub pull : ℕ → Id → ℤ → Dest → Answer
pull now i timeout t = pull_at now i timeout t (sub_of i t)

-- if sub.pull == Some(generation)
unfoldable pub fired : Id → ℕ → Sub → Dest → Option ℕ → Out
fired i generation s t none = record { dest = t; events = [] }
fired i generation s t (some g) = whether eqb g generation then record { dest = put_sub i (send_null s) t; events = null s.id ∷ [] } else record { dest = t; events = [] }

-- Dest::pull_timeout: the consumer, if it is there
unfoldable pub timeout_at : Id → ℕ → Dest → Option Sub → Out
timeout_at i generation t none = record { dest = t; events = [] }
timeout_at i generation t (some s) = fired i generation s t s.pull

-- Dest::pull_timeout
unfoldable pub pull_timeout : Id → ℕ → Dest → Out
pull_timeout i generation t = timeout_at i generation t (sub_of i t)

-- ---- leaving

-- last_delivered < 0 || e.seq <= last_delivered
abbrev pub was_delivered : ℤ → Entry → Bool
was_delivered (negsuc k) e = true
was_delivered (pos k) e = leb e.seq k

-- Dest::remove_sub: what returns to the queue
abbrev pub returned_from : ℤ → List Inflight → List Entry
returned_from last [] = []
returned_from last (i ∷ is) =
    whether i.tx then returned_from last is
    else (whether was_delivered last i.entry then redelivered i.entry else i.entry) ∷ returned_from last is

-- Dest::remove_sub: what stays reserved
abbrev pub reserved_from : Id → List Inflight → List Held
reserved_from j [] = []
reserved_from j (i ∷ is) = whether i.tx then record { holder = j; entry = i.entry } ∷ reserved_from j is else reserved_from j is

-- the list without the first that passes
abbrev pub without : (Sub → Bool) → List Sub → List Sub
without p [] = []
without p (s ∷ ss) = whether p s then ss else s ∷ without p ss

-- Dest::remove_sub: a queue's consumer that is no browser returns its entries
unfoldable pub returning : ℕ → Sub → ℤ → Dest → Kind → Dest
returning now s last t topic = t
returning now s last t queue =
    whether is_browser s then t
    else reinsert now (returned_from last s.inflight) (with_reserved (t.reserved ++ reserved_from s.id s.inflight) t)

-- Dest::remove_sub: the consumer is gone, and the turn is below the rest or 0
abbrev pub drop_sub : Id → Dest → Dest
drop_sub i t =
    let l = without (is_id i) t.subs in
    with_rr (whether leb (length l) t.rr then 0 else t.rr) (with_subs l t)

-- Dest::remove_sub: the consumer, if it is there
unfoldable pub remove_at : ℕ → Id → ℤ → Dest → Option Sub → Answer
remove_at now i last t none = record { answer = 0; dest = t; events = [] }
remove_at now i last t (some s) =
    let r = dispatch now (touch_idle now (returning now s last (drop_sub i t) t.kind)) in
    record { answer = 1; dest = r.dest; events = r.events }

-- Dest::remove_sub
unfoldable pub remove_sub : ℕ → Id → ℤ → Dest → Answer
remove_sub now i last t = remove_at now i last t (sub_of i t)

-- ---- release

-- Dest::release_reserved, its first half: `inf.tx = false`, of a present consumer
abbrev pub no_tx : Sub → Sub
no_tx s = with_inflight (map (λ i. record { dseq = i.dseq; entry = i.entry; freed = i.freed; tx = false }) s.inflight) s

abbrev pub unmarked : Id → Dest → Dest
unmarked i t = with_subs (map (λ s. whether is_id i s then no_tx s else s) t.subs) t

-- Dest::release_reserved, its second half (document 02 §10): what was reserved returns, and if there was any, a dispatch
unfoldable pub return_reserved : ℕ → Id → Dest → Out
return_reserved now i t =
    let r = dispatch now (reinsert now (map redelivered (reserved_of i t)) (with_reserved (keep (λ h. not (held_by i h)) t.reserved) t)) in
    whether empty (reserved_of i t) then record { dest = t; events = [] } else r

-- Dest::release_reserved, whole: no call does this any more; `Claims` sets the two halves equal to it
unfoldable pub release_reserved : ℕ → Id → Dest → Out
release_reserved now i t =
    let u = unmarked i t in
    let r = dispatch now (reinsert now (map redelivered (reserved_of i t)) (with_reserved (keep (λ h. not (held_by i h)) t.reserved) (unmarked i t))) in
    whether empty (reserved_of i t) then record { dest = u; events = [] } else r

-- ---- expiry

-- the order of (expiration, seq)
abbrev pub is_sooner : Entry → Entry → Bool
is_sooner e f = lt_z e.expiration f.expiration || (le_z e.expiration f.expiration && ltb e.seq f.seq)

-- the first in that order among the expired
abbrev pub sooner : Entry → Option Entry → Option Entry
sooner e none = some e
sooner e (some f) = whether is_sooner e f then some e else some f

abbrev pub soonest : ℕ → List Entry → Option Entry
soonest by [] = none
soonest by (e ∷ es) = whether expired (pos by) e then sooner e (soonest by es) else soonest by es

pub record Swept : Type 0 where
  pub list : List Entry
  pub gone : ℕ

abbrev pub swept_more : Swept → Swept
swept_more w = record { list = w.list; gone = w.gone + 1 }

-- the rest of a sweep, without the soonest if there is one
unfoldable pub sweep_at : List Entry → (Entry → Swept) → Option Entry → Swept
sweep_at l go none = record { list = l; gone = 0 }
sweep_at l go (some e) = swept_more (go e)

-- Dest::sweep_expired, of one list and its expiry index
unfoldable pub sweep_list : ℕ → ℕ → List Entry → Swept
sweep_list zero by l = record { list = l; gone = 0 }
sweep_list (suc budget) by l = sweep_at l (λ e. sweep_list budget by (keep (λ f. not (eqb f.seq e.seq)) l)) (soonest by l)

pub record SweptSubs : Type 0 where
  pub subs : List Sub
  pub gone : ℕ

-- Dest::sweep_expired: `for sub in subs.iter_mut()`
unfoldable pub sweep_subs : ℕ → ℕ → List Sub → SweptSubs
sweep_subs budget by [] = record { subs = []; gone = 0 }
sweep_subs budget by (s ∷ ss) =
    let w = sweep_list budget by s.tpending in
    let r = sweep_subs (budget - w.gone) by ss in
    record { subs = with_tpending w.list s ∷ r.subs; gone = w.gone + r.gone }

-- Dest::sweep_expired
unfoldable pub sweep_expired : ℕ → ℕ → Dest → Answer
sweep_expired now most t =
    let w = sweep_list most (due now t) t.pending in
    let r = sweep_subs (most - w.gone) (due now t) t.subs in
    let swept = count (add_expired (w.gone + r.gone)) (with_pending w.list (with_subs r.subs t)) in
    whether ltb 0 (w.gone + r.gone) then record { answer = w.gone + r.gone; dest = touch_idle now swept; events = [] }
    else record { answer = 0; dest = swept; events = [] }

-- ---- clear

abbrev pub emptied : Option (List Entry) → Option (List Entry)
emptied none = none
emptied (some l) = some []

-- Dest::clear, of one consumer
abbrev pub cleared : Sub → Sub
cleared s = with_inflight [] (with_freed 0 (with_tpending [] (with_browser (emptied s.browser) s)))

abbrev pub held_rows : List Sub → ℕ
held_rows [] = 0
held_rows (s ∷ ss) = length s.inflight + length s.tpending + held_rows ss

-- Dest::clear
unfoldable pub clear : Dest → Answer
clear t = record {
  answer = length t.pending + length t.reserved + held_rows t.subs;
  dest = with_pending [] (with_reserved [] (with_subs (map cleared t.subs) t));
  events = [];
}

-- ---- producers and audits

-- `producers.contains_key`
abbrev pub is_producer : Id → List Id → Bool
is_producer i [] = false
is_producer i (j ∷ js) = same_id j i || is_producer i js

-- Dest::add_producer
abbrev pub add_producer : Id → Dest → Dest
add_producer i t = with_idle none (with_producers (whether is_producer i t.producers then t.producers else t.producers ++ i ∷ []) t)

abbrev pub audit_of : Id → Audit → Bool
audit_of i a = same_id a.producer i

-- Dest::remove_producer
abbrev pub remove_producer : ℕ → Id → Dest → Dest
remove_producer now i t = touch_idle now (with_audits (keep (λ a. not (audit_of i a)) t.audits) (with_producers (keep (λ j. not (same_id j i)) t.producers) t))

-- Dest::is_duplicate: the producer's audit, if it is there
unfoldable pub test_at : Id → ℕ → Dest → Option Audit → Answer
test_at i q t none = record { answer = 0; dest = with_audits (t.audits ++ record { producer = i; order = q ∷ [] } ∷ []) t; events = [] }
test_at i q t (some a) =
    whether seen q a.order then record { answer = 1; dest = t; events = [] }
    else record { answer = 0; dest = with_audits (put (audit_of i) (record { producer = i; order = recorded q a.order }) t.audits) t; events = [] }

-- Dest::is_duplicate
unfoldable pub is_duplicate : Id → ℕ → Dest → Answer
is_duplicate i q t = test_at i q t (find (audit_of i) t.audits)

-- Dest::release_audits
abbrev pub release_audits : ℕ → Dest → Dest
release_audits conn t = with_audits (keep (λ a. not (eqb a.producer.conn conn)) t.audits) t

-- opens the definitions of this file
unfoldable pub destination_open : Unit {0}
unfolding look given visit_at visit scan rounds browsers dispatch_queue serve_all dispatch_topic dispatch_by touch_idle trim fan_out fan_out_all enqueue_by add_sub set_prefetch reinsert reserved_hit reserved_counts reserved_events ack_reserved ack_at ack pulled resumed pull_at pull fired timeout_at pull_timeout returning remove_at remove_sub return_reserved release_reserved sweep_at sweep_list sweep_subs sweep_expired clear test_at is_duplicate
destination_open = tt
