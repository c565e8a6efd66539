-- No call sends more than 545 events: one for each row, a closing null for each consumer, and a pull's null. Assumes nothing.
use Prim.Native.Nat.{ℕ, zero, suc, ◌+◌, ◌≤◌}
use native.Mathlib.Omega.{arith}
use mathlib.Core.Path.{◌≡◌, refl, sym, ◌∙◌, ap, subst}
use mathlib.Core.Bool.{Bool, true, false, not, ◌||◌, ◌&&◌}
use mathlib.Core.List.{List, [], ◌∷◌, ◌++◌}
use mathlib.Core.Option.{Option, none, some}
use lib.Dec.{leb, ltb, eqb}
use lib.ListN.{length, length-append, length-map}
use lib.IntN.{ℤ, pos}
use lib.Signed.{lt_z}
use borrow.Author.Tests.{leb-true}
use Rattle.definition.specs.Base.{keep, find, put, nth, empty}
use Rattle.definition.specs.Types.{Kind, queue, topic, Id, Entry, Inflight, Sub, Dest, Event, with_pending, with_subs, with_prefetch}
use Rattle.definition.specs.Consumer.{zero_stats, expired, accepts, is_browser, snapshot, has_credit, Step, meet_topic, drain_topic, serve_topic, at_rest, Browse, meet_browser, close_browser, drain_browser, dispatch_browser, AckType, Delivered, Poison, Standard, Redelivered, Individual, Unmatched, Expired, Other, ack_type, Ack, ack_range, dead_letters, ack_plain, ack_sub}
use Rattle.definition.specs.Destination.{ack_at, pull_at, timeout_at, visit_at, Look, look, given, visit, scan, turns, rounds, Browsed, browsers, dispatch_queue, serve_all, dispatch_topic, dispatch_by, count, Out, dispatch, touch_idle, is_id, sub_of, put_sub, room, set_prefetch, ack, pulled, resumed, pull, fired, pull_timeout, due}
use Rattle.definition.specs.Calls.{flying, rows_of, consumer_rows, held, all_rows, sound, Request, acknowledge, pulling, timed_out, prefetching, ask, sub_sound}
use Rattle.definition.proofs.Tests.{if-true, if-false, by-if, by-test}
use Rattle.definition.proofs.Lists.{none-some, some_inj, keep-length, length-put}
use Rattle.definition.proofs.Own.{pulling-sub}
use Rattle.definition.proofs.Fit.{fit, ack-acked}
use Rattle.definition.proofs.Sound.{facts, find-all}
use Rattle.definition.proofs.Local.{browsed}

-- entries that consumers have yet to be sent
abbrev pub waiting_rows : List Sub → ℕ
waiting_rows [] = 0
waiting_rows (s ∷ ss) = length s.tpending + length (snapshot s) + waiting_rows ss

-- ---- a topic

drain-events : (now : ℕ) (l : List Entry) (t : Step) → length (drain_topic now l t).events ≤ length t.events + length l
unfolding drain_topic meet_topic
drain-events now [] t = omega arith
drain-events now (e ∷ es) t = by-test (has_credit t.sub)
    (λ c. rw c (omega (arith, drain-events now es (meet_topic now e es t), met)))
    (λ c. rw c (omega arith))
  where
    met : length (meet_topic now e es t).events ≤ length t.events + 1
    met = by-test (expired (pos now) e) (λ c. rw c (omega arith)) (λ c. rw c (simp length-append (omega arith)))

serve_all-events : (now : ℕ) (l : List Sub) → length (serve_all now l).events ≤ waiting_rows l
unfolding serve_all
serve_all-events now [] = omega arith
serve_all-events now (s ∷ l) = omega (arith, length-append (serve_topic now s).events (serve_all now l).events, drain-events now s.tpending (at_rest s), serve_all-events now l)

-- ---- a queue

browse-events : (now : ℕ) (l : List Entry) (b : Browse) → length (drain_browser now l b).events ≤ length b.events + length l + 1
unfolding drain_browser close_browser meet_browser
browse-events now [] b = by-test (has_credit b.sub) (λ c. rw c closed) (λ c. rw c (omega arith))
  where
    closed : length (close_browser b).events ≤ length b.events + 0 + 1
    closed = by-if (λ (x : Browse). length x.events ≤ length b.events + 0 + 1) b.sub.finished b _ (λ c. omega arith) (λ c. simp length-append (omega arith))
browse-events now (e ∷ es) b = by-test (has_credit b.sub)
    (λ c. rw c (omega (arith, browse-events now es (meet_browser now e es b), met)))
    (λ c. rw c (omega arith))
  where
    met : length (meet_browser now e es b).events ≤ length b.events + 1
    met = by-test (expired (pos now) e) (λ c. rw c (omega arith)) (λ c. rw c (simp length-append (omega arith)))

browse-pending : (now : ℕ) (l : List Entry) (b : Browse) → length (drain_browser now l b).pending ≤ length b.pending
unfolding drain_browser close_browser meet_browser
browse-pending now [] b = by-test (has_credit b.sub) (λ c. rw c closed) (λ c. rw c (omega arith))
  where
    closed : length (close_browser b).pending ≤ length b.pending
    closed = by-if (λ (x : Browse). length x.pending ≤ length b.pending) b.sub.finished b _ (λ c. omega arith) (λ c. omega arith)
browse-pending now (e ∷ es) b = by-test (has_credit b.sub)
    (λ c. rw c (omega (arith, browse-pending now es (meet_browser now e es b), met)))
    (λ c. rw c (omega arith))
  where
    met : length (meet_browser now e es b).pending ≤ length b.pending
    met = by-test (expired (pos now) e) (λ c. rw c (keep-length _ b.pending)) (λ c. rw c (omega arith))

record BrowseSends (p : List Entry) (s : Sub) (b : Browse) : Type 0 where
  events : length b.events ≤ length (snapshot s) + 1
  pending : length b.pending ≤ length p

browse-sends : (now : ℕ) (p : List Entry) (s : Sub) → BrowseSends p s (browsed now p s)
browse-sends now p s = by-if (BrowseSends p s) (is_browser s) (dispatch_browser now p s) _
    (λ c. record { events = omega (arith, browse-events now (snapshot s) (record { sub = s; pending = p; counts = zero_stats; events = [] })); pending = browse-pending now (snapshot s) (record { sub = s; pending = p; counts = zero_stats; events = [] }) })
    (λ c. record { events = omega arith; pending = omega arith })

record BrowsersSend (now : ℕ) (l : List Sub) (p : List Entry) : Type 0 where
  events : length (browsers now l p).events ≤ waiting_rows l + length l
  pending : length (browsers now l p).pending ≤ length p

browsers-send : (now : ℕ) (l : List Sub) (p : List Entry) → BrowsersSend now l p
unfolding browsers
browsers-send now [] p = record { events = omega arith; pending = omega arith }
browsers-send now (s ∷ l) p =
    let b = browse-sends now p s in
    let r = browsers-send now l (browsed now p s).pending in
    record {
      events = omega (arith, length-append (browsed now p s).events (browsers now l (browsed now p s).pending).events, b.events, r.events);
      pending = omega (arith, r.pending, b.pending);
    }

chosen-one : Option Entry → ℕ
chosen-one none = 0
chosen-one (some e) = 1

look-less : (now : ℕ) (s : Sub) (c : ℕ) (l : List Entry) → chosen-one (look now s c l).chosen + length (look now s c l).pending ≤ length l
unfolding look chosen-one
look-less now s c [] = omega arith
look-less now s c (e ∷ es) = by-test (leb e.seq s.cursor)
    (λ x. rw x (omega (arith, look-less now s c es)))
    (λ x. rw x (by-test (expired (pos now) e)
    (λ y. rw y (omega (arith, look-less now s c es)))
    (λ y. rw y (by-test (accepts s e) (λ z. rw z (omega arith)) (λ z. rw z (omega (arith, look-less now s e.seq es)))))))

-- a turn sends what it takes from the queue
record Sends (t u : Dest) (es : List Event) : Type 0 where
  fewer : length es + length u.pending ≤ length t.pending

given-sends : (i : ℕ) (s : Sub) (l : Look) (t : Dest) (o : Option Entry) → chosen-one o + length l.pending ≤ length t.pending → Sends t (given i s l t o).dest (given i s l t o).events
unfolding given chosen-one
given-sends i s l t none h = record { fewer = h }
given-sends i s l t (some e) h = record { fewer = h }

visit-sends : (now i : ℕ) (t : Dest) → Sends t (visit now i t).dest (visit now i t).events
unfolding visit visit_at
visit-sends now i t = go (nth i t.subs) refl
  where
    go : (o : Option Sub) → nth i t.subs ≡ o → Sends t (visit now i t).dest (visit now i t).events
    go none e = rw e (record { fewer = omega arith })
    go (some s) e = rw e (by-test (is_browser s || not (has_credit s)) (λ c. rw c (record { fewer = omega arith }))
        (λ c. rw c (given-sends i s (look now s s.cursor t.pending) t (look now s s.cursor t.pending).chosen (look-less now s s.cursor t.pending))))

scan-sends : (now : ℕ) (is : List ℕ) (t : Dest) → Sends t (scan now is t).dest (scan now is t).events
unfolding scan
scan-sends now [] t = record { fewer = omega arith }
scan-sends now (i ∷ is) t = by-test (visit now i t).took
    (λ c. rw c (visit-sends now i t))
    (λ c. rw c (record { fewer = omega (arith, (scan-sends now is (visit now i t).dest).fewer, (visit-sends now i t).fewer) }))

rounds-sends : (fuel now : ℕ) (t : Dest) → Sends t (rounds fuel now t).dest (rounds fuel now t).events
unfolding rounds
rounds-sends zero now t = record { fewer = omega arith }
rounds-sends (suc fuel) now t = by-test (not (scan now (turns t) t).took || empty (scan now (turns t) t).dest.pending)
    (λ c. rw c (scan-sends now (turns t) t))
    (λ c. rw c (record { fewer = simp length-append (omega (arith, (scan-sends now (turns t) t).fewer, (rounds-sends fuel now (scan now (turns t) t).dest).fewer)) }))

-- what a dispatch sends: an event for each entry that waits, and a closing null for each consumer
pub dispatch-sends : (k : Kind) (now : ℕ) (t : Dest) → length (dispatch_by now t k).events ≤ length t.pending + waiting_rows t.subs + length t.subs
unfolding dispatch_by dispatch_topic dispatch_queue
dispatch-sends topic now t = omega (arith, serve_all-events now t.subs)
dispatch-sends queue now t = by-test (empty t.subs)
    (λ c. rw c (omega arith))
    (λ c. rw c (simp length-append (omega (arith, b.events, b.pending, r.fewer))))
  where
    q : Browsed
    q = browsers now t.subs t.pending

    u : Dest
    u = count q.counts (with_pending q.pending (with_subs q.subs t))

    b : BrowsersSend now t.subs t.pending
    b = browsers-send now t.subs t.pending

    r : Sends u (rounds (suc (length q.pending)) now u).dest (rounds (suc (length q.pending)) now u).events
    r = rounds-sends (suc (length q.pending)) now u

-- ---- the rows of a sound state

abbrev pub flights : List Sub → ℕ
flights [] = 0
flights (s ∷ ss) = length s.inflight + flights ss

rows_split : (l : List Sub) → length (consumer_rows l) ≡ flights l + waiting_rows l
rows_split [] = refl
rows_split (s ∷ l) = omega (arith, length-append (rows_of s) (consumer_rows l), length-append (flying s) (s.tpending ++ snapshot s), length-append s.tpending (snapshot s), length-map s.inflight (λ i. i.entry), rows_split l)

-- what a sound state's rows come to
pub record Counted (t : Dest) : Type 0 where
  pub rows : length t.pending + length t.reserved + flights t.subs + waiting_rows t.subs ≤ 512
  pub subs : length t.subs ≤ 32

pub counted : (t : Dest) → sound t ≡ true → Counted t
counted t e =
    let f = facts t e in
    record {
      rows = omega (arith, leb-true (length (all_rows t)) 512 f.few-rows, length-append t.pending (held t ++ consumer_rows t.subs), length-append (held t) (consumer_rows t.subs), length-map t.reserved (λ h. h.entry), rows_split t.subs);
      subs = leb-true (length t.subs) 32 f.few-subs;
    }

pub found-flights : (p : Sub → Bool) (l : List Sub) (s : Sub) → find p l ≡ some s → length s.inflight ≤ flights l
found-flights p [] s f = absurd (none-some f)
found-flights p (c ∷ l) s f = by-test (p c)
    (λ e. subst (λ (x : Sub). length x.inflight ≤ flights (c ∷ l)) (some_inj (sym (if-true (some c) (find p l) e) ∙ f)) (omega arith))
    (λ e. omega (arith, found-flights p l s (sym (if-false (some c) (find p l) e) ∙ f)))

put-waiting : (p : Sub → Bool) (l : List Sub) (s v : Sub) → find p l ≡ some s → v.tpending ≡ s.tpending → snapshot v ≡ snapshot s → waiting_rows (put p v l) ≡ waiting_rows l
put-waiting p [] s v f a b = refl
put-waiting p (c ∷ l) s v f a b = by-test (p c)
    (λ e.
    let q : c ≡ s = some_inj (sym (if-true (some c) (find p l) e) ∙ f) in
    rw e (omega (arith, ap length a, ap length b, ap (λ (x : Sub). length x.tpending) q, ap (λ (x : Sub). length (snapshot x)) q)))
    (λ e. rw e (omega (arith, put-waiting p l s v (sym (if-false (some c) (find p l) e) ∙ f) a b)))

pub touch-pending : (now : ℕ) (t : Dest) → (touch_idle now t).pending ≡ t.pending
unfolding touch_idle
touch-pending now t = by-test (empty t.pending && (empty t.subs && empty t.producers)) (λ c. rw c) (λ c. rw c)

pub touch-subs : (now : ℕ) (t : Dest) → (touch_idle now t).subs ≡ t.subs
unfolding touch_idle
touch-subs now t = by-test (empty t.pending && (empty t.subs && empty t.producers)) (λ c. rw c) (λ c. rw c)

-- ---- dead letters

letters-length : (cause : Bool) (l : List Inflight) → length (dead_letters cause l) ≤ length l
letters-length cause [] = omega arith
letters-length cause (i ∷ l) = by-if (λ (x : List Event). length x ≤ length (i ∷ l)) i.entry.persistent _ _ (λ c. omega (arith, letters-length cause l)) (λ c. omega (arith, letters-length cause l))

plain-events : (y : AckType) (a : Ack) (s : Sub) → length (ack_plain a s y).events ≤ length s.inflight
unfolding ack_plain
plain-events Delivered a s = omega arith
plain-events Poison a s = by-test (is_browser s) (λ c. rw c (omega arith)) (λ c. rw c (omega (arith, letters-length a.cause (keep (ack_range s a false) s.inflight), keep-length (ack_range s a false) s.inflight)))
plain-events Standard a s = omega arith
plain-events Redelivered a s = omega arith
plain-events Individual a s = omega arith
plain-events Unmatched a s = omega arith
plain-events Expired a s = omega arith
plain-events Other a s = omega arith

pub ack-events : (a : Ack) (s : Sub) → length (ack_sub a s).events ≤ length s.inflight
unfolding ack_sub
ack-events a s = by-if (λ (t : Step). length t.events ≤ length s.inflight) a.transacted _ _ (λ q. omega arith) (λ q. plain-events (ack_type a.type) a s)

-- ---- codes 4 to 7, of a present consumer

put-sends : (now : ℕ) (i : Id) (s v : Sub) (t : Dest) → sub_of i t ≡ some s → v.tpending ≡ s.tpending → snapshot v ≡ snapshot s →
    length (dispatch now (put_sub i v t)).events ≤ length t.pending + waiting_rows t.subs + length t.subs
put-sends now i s v t f a b = omega (arith, dispatch-sends t.kind (due now t) (put_sub i v t), put-waiting (is_id i) t.subs s v f a b, length-put (is_id i) t.subs v)

pulled-sends : (i : Id) (timeout : ℤ) (s : Sub) (r : Out) (o : Option ℕ) → length (pulled i timeout s r o).events ≤ length r.events + 1
unfolding pulled
pulled-sends i timeout s r none = omega arith
pulled-sends i timeout s r (some g) = by-test (lt_z timeout (pos 0))
    (λ c. rw c (simp length-append (omega arith)))
    (λ c. rw c (by-test (lt_z (pos 0) timeout) (λ e. rw e (omega arith)) (λ e. rw e (omega arith))))

resumed-sends : (i : Id) (timeout : ℤ) (r : Out) (o : Option Sub) → length (resumed i timeout r o).events ≤ length r.events + 1
unfolding resumed
resumed-sends i timeout r none = omega arith
resumed-sends i timeout r (some s) = pulled-sends i timeout s r s.pull

fired-sends : (i : Id) (generation : ℕ) (s : Sub) (t : Dest) (o : Option ℕ) → length (fired i generation s t o).events ≤ 545
unfolding fired
fired-sends i generation s t none = omega arith
fired-sends i generation s t (some g) = by-test (eqb g generation) (λ c. rw c (omega arith)) (λ c. rw c (omega arith))

pub ask-sends : (i : Id) (q : Request) (s : Sub) (t : Dest) → sound t ≡ true → sub_of i t ≡ some s → length (ask i t q).events ≤ 545
unfolding ask ack ack_at pull pull_at pull_timeout timeout_at set_prefetch
ask-sends i (acknowledge a now) s t e f =
    let c = counted t e in
    let m = fit t.kind t.calls_used s (find-all (is_id i) (sub_sound t.kind t.calls_used) t.subs s f (facts t e).consumers) in
    let p = ack-acked t.kind a s m.0 in
    let u : Dest = count (ack_sub a s).counts (put_sub i (ack_sub a s).sub t) in
    rw f (simp length-append (omega (
      arith,
      c.rows,
      c.subs,
      ack-events a s,
      found-flights (is_id i) t.subs s f,
      dispatch-sends (touch_idle now u).kind (due now (touch_idle now u)) (touch_idle now u),
      ap length (touch-pending now u),
      ap waiting_rows (touch-subs now u),
      ap length (touch-subs now u),
      put-waiting (is_id i) t.subs s (ack_sub a s).sub f p.list p.shown,
      length-put (is_id i) t.subs (ack_sub a s).sub,
    )))
ask-sends i (pulling timeout now) s t e f = let c = counted t e in rw f (by-test (ltb 0 s.prefetch)
    (λ x. rw x (omega arith))
    (λ x. rw x (omega (
      arith,
      c.rows,
      c.subs,
      put-sends now i s (pulling-sub s) t f refl refl,
      resumed-sends i timeout (dispatch now (put_sub i (pulling-sub s) t)) (sub_of i (dispatch now (put_sub i (pulling-sub s) t)).dest),
    ))))
ask-sends i (timed_out generation) s t e f = rw f (fired-sends i generation s t s.pull)
ask-sends i (prefetching p now) s t e f = let c = counted t e in rw f (omega (arith, c.rows, c.subs, put-sends now i s (with_prefetch (room p) s) t f refl refl))
