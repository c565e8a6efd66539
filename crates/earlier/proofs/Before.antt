-- With an allowance each call is the one without, at a clock that is earlier by it, but for a new idle mark. Assumes nothing.
use Prim.Native.Nat.{ℕ, zero, suc, ◌+◌, ◌-◌, ◌^◌}
use native.Mathlib.Omega.{arith}
use mathlib.Core.Path.{◌≡◌, refl, sym, ◌∙◌, ap, ap₂, subst}
use mathlib.Core.Bool.{Bool, true, false, not, ◌&&◌, ◌||◌}
use mathlib.Core.List.{List, [], ◌∷◌, ◌++◌, map}
use mathlib.Core.Option.{Option, none, some}
use lib.Dec.{leb, ltb, eqb}
use lib.IntN.{ℤ, pos}
use lib.Signed.{lt_z}
use lib.ListN.{length}
use borrow.Author.Tests.{leb-true, le-leb}
use Rattle.audit.specs.Audit.{seen}
use Rattle.definition.specs.Base.{whether◌then◌else◌, keep, empty, nth, find}
use Rattle.definition.specs.Types.{Kind, queue, topic, Id, Entry, Sub, Audit, Dest, Event, with_pull, with_generation, with_pending, with_subs, with_reserved, with_producers, with_audits, with_idle}
use Rattle.definition.specs.Consumer.{add_expired, is_browser, has_credit, redelivered, same_id, Ack, ack_sub}
use Rattle.definition.specs.Destination.{Out, Answer, Spec, Look, look, given, Turn, visit_at, visit, scan, turns, rounds, browsers, dispatch_queue, dispatch_topic, dispatch_by, dispatch, due, idle_mark, touch_idle, count, sub_of, put_sub, stored, fanned_out, enqueue_by, joined, add_sub, prefetch_at, set_prefetch, reinsert, held_by, reserved_of, ack_reserved, ack_at, ack, pulled, resumed, pull_at, pull, fired, timeout_at, pull_timeout, returned_from, reserved_from, returning, drop_sub, remove_at, remove_sub, return_reserved, sweep_list, sweep_subs, sweep_expired, clear, audit_of, test_at, is_duplicate}
use Rattle.definition.specs.Calls.{Lengths, short, sound, signed_within, clock_ok, id_ok, entry_ok, ack_ok, spec_ok, Request, acknowledge, pulling, timed_out, prefetching, Call, enqueuing, joining, leaving, asking, unmarking, releasing, sweeping, clearing, adding, removing, testing, forgetting, discarding, missing, arguments_ok, request_ok, own_refusal, ask, perform, refusal, Result, refused, used, call}
use Rattle.definition.specs.Histories.{asked_at, call_clock}
use Rattle.earlier.specs.Plain.{plain_dispatch, plain_enqueue_by, plain_joined, plain_reinsert, plain_sweep_expired, plain_ack_at, plain_pull_at, plain_returning, plain_remove_at, plain_return_reserved, plain_ask, plain_perform, plain_own_refusal, plain_refusal, plain_call}
use Rattle.earlier.specs.Claims.{asked_less, at_less, marked_by, Beside, AsEarlier}
use Rattle.earlier.proofs.Settings.{either}
use Rattle.earlier.proofs.Stays.{touch-stays, joined-stays, prefetch-stays, reserved-stays, returning-stays}

-- ---- a dispatch does not look at the idle mark

abbrev moved : Option ℕ → Out → Out
moved x r = record { dest = with_idle x r.dest; events = r.events }

abbrev moved_turn : Option ℕ → Turn → Turn
moved_turn x r = record { took = r.took; dest = with_idle x r.dest; events = r.events }

-- a choice that is made on both sides
choice : {A B : Type 0} (f : A → B) (b : Bool) (x y : A) (v w : B) → v ≡ f x → w ≡ f y → (whether b then v else w) ≡ f (whether b then x else y)
choice f true x y v w p q = p
choice f false x y v w p q = q

given-moved : (i : ℕ) (s : Sub) (l : Look) (x : Option ℕ) (t : Dest) (o : Option Entry) → given i s l (with_idle x t) o ≡ moved_turn x (given i s l t o)
unfolding given
given-moved i s l x t none = refl
given-moved i s l x t (some e) = refl

visit-moved : (now i : ℕ) (x : Option ℕ) (t : Dest) (o : Option Sub) → visit_at now i (with_idle x t) o ≡ moved_turn x (visit_at now i t o)
unfolding visit_at
visit-moved now i x t none = refl
visit-moved now i x t (some s) =
    let l = look now s s.cursor t.pending in
    choice (moved_turn x) (is_browser s || not (has_credit s)) (record { took = false; dest = t; events = [] }) (given i s l t l.chosen) _ _ refl (given-moved i s l x t l.chosen)

scan-moved : (now : ℕ) (is : List ℕ) (x : Option ℕ) (t : Dest) → scan now is (with_idle x t) ≡ moved_turn x (scan now is t)
unfolding scan visit
scan-moved now [] x t = refl
scan-moved now (i ∷ is) x t =
    let here = visit now i t in
    ap (λ (h : Turn). whether h.took then h else scan now is h.dest) (visit-moved now i x t (nth i t.subs))
    ∙ choice (moved_turn x) here.took here (scan now is here.dest) _ _ refl (scan-moved now is x here.dest)

rounds-moved : (fuel now : ℕ) (x : Option ℕ) (t : Dest) → rounds fuel now (with_idle x t) ≡ moved x (rounds fuel now t)
unfolding rounds
rounds-moved zero now x t = refl
rounds-moved (suc fuel) now x t =
    let here = scan now (turns t) t in
    let later = rounds fuel now here.dest in
    let of : Turn → Out → Out = λ h l. whether not h.took || empty h.dest.pending then record { dest = h.dest; events = h.events } else record { dest = l.dest; events = h.events ++ l.events } in
    ap (λ (h : Turn). of h (rounds fuel now h.dest)) (scan-moved now (turns t) x t)
    ∙ ap (λ (l : Out). of (moved_turn x here) l) (rounds-moved fuel now x here.dest)
    ∙ choice (moved x) (not here.took || empty here.dest.pending) (record { dest = here.dest; events = here.events }) (record { dest = later.dest; events = here.events ++ later.events }) _ _ refl refl

queue-moved : (now : ℕ) (x : Option ℕ) (t : Dest) → dispatch_queue now (with_idle x t) ≡ moved x (dispatch_queue now t)
unfolding dispatch_queue
queue-moved now x t =
    let b = browsers now t.subs t.pending in
    let u = count b.counts (with_pending b.pending (with_subs b.subs t)) in
    let r = rounds (suc (length b.pending)) now u in
    choice (moved x) (empty t.subs) (record { dest = t; events = [] }) (record { dest = r.dest; events = b.events ++ r.events }) _ _ refl
    (ap (λ (o : Out). record { dest = o.dest; events = b.events ++ o.events }) (rounds-moved (suc (length b.pending)) now x u))

by-moved : (now : ℕ) (x : Option ℕ) (t : Dest) (k : Kind) → dispatch_by now (with_idle x t) k ≡ moved x (dispatch_by now t k)
unfolding dispatch_by dispatch_topic
by-moved now x t queue = queue-moved now x t
by-moved now x t topic = refl

by-idle : (now : ℕ) (t : Dest) (k : Kind) → (dispatch_by now t k).dest.idle ≡ t.idle
by-idle now t k = ap (λ (r : Out). r.dest.idle) (by-moved now t.idle t k)

-- ---- what two calls leave, one beside the other

-- `Beside`, of what a call that is not refused answers, where the mark was m
record Like (now : ℕ) (m : Option ℕ) (r p : Answer) : Type 0 where
  answer : r.answer ≡ p.answer
  events : r.events ≡ p.events
  dest : with_idle none r.dest ≡ with_idle none p.dest
  idle : r.dest.idle ≡ marked_by now m p.dest.idle

mark-none : (now : ℕ) (m : Option ℕ) → none ≡ marked_by now m none
mark-none now none = refl
mark-none now (some k) = refl

mark-same : (now : ℕ) (m : Option ℕ) → m ≡ marked_by now m m
mark-same now none = refl
mark-same now (some k) = refl

-- where both leave the same, and the mark is as it was or none
same_kept : (now : ℕ) (m : Option ℕ) (r p : Answer) → r ≡ p → r.dest.idle ≡ m → Like now m r p
same_kept now m r p e h = record {
  answer = ap (λ (a : Answer). a.answer) e;
  events = ap (λ (a : Answer). a.events) e;
  dest = ap (λ (a : Answer). with_idle none a.dest) e;
  idle = h ∙ mark-same now m ∙ ap (marked_by now m) (sym h ∙ ap (λ (a : Answer). a.dest.idle) e);
}

same_none : (now : ℕ) (m : Option ℕ) (r p : Answer) → r ≡ p → r.dest.idle ≡ none → Like now m r p
same_none now m r p e h = record {
  answer = ap (λ (a : Answer). a.answer) e;
  events = ap (λ (a : Answer). a.events) e;
  dest = ap (λ (a : Answer). with_idle none a.dest) e;
  idle = h ∙ mark-none now m ∙ ap (marked_by now m) (sym h ∙ ap (λ (a : Answer). a.dest.idle) e);
}

like-choice : (now : ℕ) (m : Option ℕ) (b : Bool) (r s p q : Answer) → Like now m r p → Like now m s q → Like now m (whether b then r else s) (whether b then p else q)
like-choice now m true r s p q f g = f
like-choice now m false r s p q f g = g

-- ---- a mark

mark-marked : (now n : ℕ) (m : Option ℕ) → idle_mark now m ≡ marked_by now m (idle_mark n m)
mark-marked now n none = refl
mark-marked now n (some k) = refl

touch-marked : (now n : ℕ) (u : Dest) → (touch_idle now u).idle ≡ marked_by now u.idle (touch_idle n u).idle
unfolding touch_idle
touch-marked now n u = go (empty u.pending && (empty u.subs && empty u.producers))
  where
    go : (b : Bool) → (whether b then with_idle (idle_mark now u.idle) u else with_idle none u).idle ≡ marked_by now u.idle (whether b then with_idle (idle_mark n u.idle) u else with_idle none u).idle
    go true = mark-marked now n u.idle
    go false = mark-none now u.idle

touch-moved : (now n : ℕ) (u : Dest) → touch_idle now u ≡ with_idle (touch_idle now u).idle (touch_idle n u)
unfolding touch_idle
touch-moved now n u = go (empty u.pending && (empty u.subs && empty u.producers))
  where
    go : (b : Bool) → (whether b then with_idle (idle_mark now u.idle) u else with_idle none u) ≡ with_idle (whether b then with_idle (idle_mark now u.idle) u else with_idle none u).idle (whether b then with_idle (idle_mark n u.idle) u else with_idle none u)
    go true = refl
    go false = refl

touch-like : (now n a : ℕ) (u : Dest) → Like now u.idle (record { answer = a; dest = touch_idle now u; events = [] }) (record { answer = a; dest = touch_idle n u; events = [] })
touch-like now n a u = record { answer = refl; events = refl; dest = ap (λ (v : Dest). with_idle none v) (touch-moved now n u); idle = touch-marked now n u }

-- and a dispatch then
dispatch-like : (now n a : ℕ) (es : List Event) (u : Dest) → due now u ≡ n →
    let r = dispatch now (touch_idle now u) in
    let p = plain_dispatch n (touch_idle n u) in
    Like now u.idle (record { answer = a; dest = r.dest; events = es ++ r.events }) (record { answer = a; dest = p.dest; events = es ++ p.events })
dispatch-like now n a es u h = record {
  answer = refl;
  events = ap (λ (o : Out). es ++ o.events) apart;
  dest = ap (λ (o : Out). with_idle none o.dest) apart;
  idle = ap (λ (o : Out). o.dest.idle) apart ∙ touch-marked now n u ∙ ap (marked_by now u.idle) (sym (by-idle n v v.kind));
}
  where
    x : Option ℕ
    x = (touch_idle now u).idle

    v : Dest
    v = touch_idle n u

    apart : dispatch now (touch_idle now u) ≡ moved x (plain_dispatch n v)
    apart =
        ap (λ (w : Dest). dispatch now w) (touch-moved now n u)
        ∙ ap (λ k. dispatch_by k (with_idle x v) v.kind) (ap (λ k. now - k) (touch-stays n u) ∙ h)
        ∙ by-moved n x v v.kind

-- one that is the same
dispatch-same : (now n : ℕ) (u : Dest) → due now u ≡ n → dispatch now u ≡ plain_dispatch n u
dispatch-same now n u h = ap (λ k. dispatch_by k u u.kind) h

-- the clock less what stays
due-same : (now : ℕ) (u t : Dest) → u.allowance ≡ t.allowance → due now u ≡ due now t
due-same now u t h = ap (λ k. now - k) h

-- ---- each call

abbrev quietly : Out → Answer
quietly r = record { answer = 0; dest = r.dest; events = r.events }

enqueue-like : (now : ℕ) (e : Entry) (t : Dest) (k : Kind) → Like now t.idle (quietly (enqueue_by now e t k)) (quietly (plain_enqueue_by (due now t) e t k))
unfolding enqueue_by plain_enqueue_by dispatch_by
enqueue-like now e t queue = same_none now t.idle _ _ refl (by-idle (due now t) (stored e t) queue)
enqueue-like now e t topic = same_kept now t.idle _ _ refl (by-idle (due now t) (fanned_out (due now t) e t) topic)

join-none : (now : ℕ) (p : Spec) (t : Dest) → (joined now p t).idle ≡ none
join-none now p t = refl

join-like : (now : ℕ) (p : Spec) (t : Dest) → Like now t.idle (quietly (dispatch now (joined now p t))) (quietly (plain_dispatch (due now t) (plain_joined (due now t) p t)))
join-like now p t = same_none now t.idle _ _ (ap quietly (dispatch-same now (due now t) (joined now p t) (due-same now (joined now p t) t (joined-stays now p t)))) (by-idle _ (joined now p t) (joined now p t).kind ∙ join-none now p t)

returning-same : (now : ℕ) (s : Sub) (last : ℤ) (t : Dest) (k : Kind) → returning now s last t k ≡ plain_returning (due now t) s last t k
unfolding returning plain_returning reinsert plain_reinsert
returning-same now s last t topic = refl
returning-same now s last t queue = refl

returning-idle : (now : ℕ) (s : Sub) (last : ℤ) (t : Dest) (k : Kind) → (returning now s last t k).idle ≡ t.idle
unfolding returning reinsert
returning-idle now s last t topic = refl
returning-idle now s last t queue = go (is_browser s)
  where
    go : (b : Bool) → (whether b then t else reinsert now (returned_from last s.inflight) (with_reserved (t.reserved ++ reserved_from s.id s.inflight) t)).idle ≡ t.idle
    go true = refl
    go false = refl

leave-like : (now : ℕ) (i : Id) (last : ℤ) (t : Dest) (o : Option Sub) → Like now t.idle (remove_at now i last t o) (plain_remove_at (due now t) i last t o)
unfolding remove_at plain_remove_at
leave-like now i last t none = same_kept now t.idle _ _ refl refl
leave-like now i last t (some s) =
    let u = returning now s last (drop_sub i t) t.kind in
    let n = due now t in
    let of : Dest → Answer = λ v. let r = plain_dispatch n (touch_idle n v) in record { answer = 1; dest = r.dest; events = r.events } in
    let l = dispatch-like now n 1 [] u (due-same now u t (returning-stays now s last (drop_sub i t) t.kind)) in
    subst (λ (p : Answer). Like now t.idle (remove_at now i last t (some s)) p) (ap of (returning-same now s last (drop_sub i t) t.kind))
    (subst (λ m. Like now m (remove_at now i last t (some s)) (of u)) (returning-idle now s last (drop_sub i t) t.kind) l)

reserved-idle : (i : Id) (a : Ack) (t : Dest) (o : Option ℕ) → (ack_reserved i a t o).dest.idle ≡ t.idle
unfolding ack_reserved
reserved-idle i a t none = refl
reserved-idle i a t (some last) = refl

ack-like : (now : ℕ) (i : Id) (a : Ack) (t : Dest) (o : Option Sub) → Like now t.idle (quietly (ack_at now i a t o)) (quietly (plain_ack_at (due now t) i a t o))
unfolding ack_at plain_ack_at
ack-like now i a t none = go (a.transacted || empty (reserved_of i t))
  where
    k : Out
    k = ack_reserved i a t a.last

    r : Out
    r = dispatch now (touch_idle now k.dest)

    p : Out
    p = plain_dispatch (due now t) (touch_idle (due now t) k.dest)

    go : (b : Bool) → Like now t.idle (quietly (whether b then record { dest = t; events = [] } else record { dest = r.dest; events = k.events ++ r.events })) (quietly (whether b then record { dest = t; events = [] } else record { dest = p.dest; events = k.events ++ p.events }))
    go true = same_kept now t.idle _ _ refl refl
    go false = subst (λ m. Like now m (record { answer = 0; dest = r.dest; events = k.events ++ r.events }) (record { answer = 0; dest = p.dest; events = k.events ++ p.events })) (reserved-idle i a t a.last)
        (dispatch-like now (due now t) 0 k.events k.dest (due-same now k.dest t (reserved-stays i a t a.last)))
ack-like now i a t (some s) = let k = ack_sub a s in dispatch-like now (due now t) 0 k.events (count k.counts (put_sub i k.sub t)) refl

pulled-idle : (i : Id) (timeout : ℤ) (s : Sub) (r : Out) (o : Option ℕ) → (pulled i timeout s r o).dest.idle ≡ r.dest.idle
unfolding pulled
pulled-idle i timeout s r none = refl
pulled-idle i timeout s r (some g) = either (λ (a : Answer). a.dest.idle) (lt_z timeout (pos 0)) _ _ r.dest.idle refl (either (λ (a : Answer). a.dest.idle) (lt_z (pos 0) timeout) _ _ r.dest.idle refl refl)

resumed-idle : (i : Id) (timeout : ℤ) (r : Out) (o : Option Sub) → (resumed i timeout r o).dest.idle ≡ r.dest.idle
unfolding resumed
resumed-idle i timeout r none = refl
resumed-idle i timeout r (some s) = pulled-idle i timeout s r s.pull

pull-same : (now : ℕ) (i : Id) (timeout : ℤ) (t : Dest) (o : Option Sub) → pull_at now i timeout t o ≡ plain_pull_at (due now t) i timeout t o
unfolding pull_at plain_pull_at
pull-same now i timeout t none = refl
pull-same now i timeout t (some s) = refl

pull-idle : (now : ℕ) (i : Id) (timeout : ℤ) (t : Dest) (o : Option Sub) → (pull_at now i timeout t o).dest.idle ≡ t.idle
unfolding pull_at
pull-idle now i timeout t none = refl
pull-idle now i timeout t (some s) =
    let u = put_sub i (with_pull (some (s.generation + 1)) (with_generation (s.generation + 1) s)) t in
    let r = dispatch now u in
    either (λ (a : Answer). a.dest.idle) (ltb 0 s.prefetch) _ _ t.idle refl (resumed-idle i timeout r (sub_of i r.dest) ∙ by-idle (due now t) u t.kind)

prefetch-idle : (i : Id) (p : ℤ) (t : Dest) (o : Option Sub) → (prefetch_at i p t o).idle ≡ t.idle
prefetch-idle i p t none = refl
prefetch-idle i p t (some s) = refl

fired-idle : (i : Id) (generation : ℕ) (s : Sub) (t : Dest) (o : Option ℕ) → (fired i generation s t o).dest.idle ≡ t.idle
unfolding fired
fired-idle i generation s t none = refl
fired-idle i generation s t (some g) = either (λ (r : Out). r.dest.idle) (eqb g generation) _ _ t.idle refl refl

timeout-idle : (i : Id) (generation : ℕ) (t : Dest) (o : Option Sub) → (timeout_at i generation t o).dest.idle ≡ t.idle
unfolding timeout_at
timeout-idle i generation t none = refl
timeout-idle i generation t (some s) = fired-idle i generation s t s.pull

release-like : (now : ℕ) (i : Id) (t : Dest) → Like now t.idle (quietly (return_reserved now i t)) (quietly (plain_return_reserved (due now t) i t))
unfolding return_reserved plain_return_reserved reinsert plain_reinsert
release-like now i t = go (empty (reserved_of i t))
  where
    u : Dest
    u = reinsert now (map redelivered (reserved_of i t)) (with_reserved (keep (λ h. not (held_by i h)) t.reserved) t)

    go : (b : Bool) → Like now t.idle (quietly (whether b then record { dest = t; events = [] } else dispatch now u)) (quietly (whether b then record { dest = t; events = [] } else plain_dispatch (due now t) u))
    go true = same_kept now t.idle _ _ refl refl
    go false = same_kept now t.idle _ _ refl (by-idle (due now t) u t.kind)

sweep-like : (now most : ℕ) (t : Dest) → Like now t.idle (sweep_expired now most t) (plain_sweep_expired (due now t) most t)
unfolding sweep_expired plain_sweep_expired
sweep-like now most t =
    let w = sweep_list most (due now t) t.pending in
    let r = sweep_subs (most - w.gone) (due now t) t.subs in
    let swept = count (add_expired (w.gone + r.gone)) (with_pending w.list (with_subs r.subs t)) in
    like-choice now t.idle (ltb 0 (w.gone + r.gone)) _ _ _ _ (touch-like now (due now t) (w.gone + r.gone) swept) (same_kept now t.idle _ _ refl refl)

test-idle : (i : Id) (q : ℕ) (t : Dest) (o : Option Audit) → (test_at i q t o).dest.idle ≡ t.idle
unfolding test_at
test-idle i q t none = refl
test-idle i q t (some a) = either (λ (r : Answer). r.dest.idle) (seen q a.order) _ _ t.idle refl refl

ask-like : (i : Id) (t : Dest) (q : Request) → Like (asked_at q) t.idle (ask i t q) (plain_ask i t (asked_less t.allowance q))
unfolding ask plain_ask ack pull pull_timeout set_prefetch
ask-like i t (acknowledge a now) = ack-like now i a t (sub_of i t)
ask-like i t (pulling timeout now) = same_kept now t.idle _ _ (pull-same now i timeout t (sub_of i t)) (pull-idle now i timeout t (sub_of i t))
ask-like i t (timed_out generation) = same_kept 0 t.idle _ _ refl (timeout-idle i generation t (sub_of i t))
ask-like i t (prefetching p now) =
    let u = prefetch_at i p t (sub_of i t) in
    same_kept now t.idle _ _ (ap quietly (dispatch-same now (due now t) u (due-same now u t (prefetch-stays i p t (sub_of i t))))) (by-idle _ u u.kind ∙ prefetch-idle i p t (sub_of i t))

perform-like : (t : Dest) (c : Call) → Like (call_clock c) t.idle (perform t c) (plain_perform t (at_less t.allowance c))
unfolding perform plain_perform add_sub remove_sub clear is_duplicate
perform-like t (enqueuing e now) = enqueue-like now e t t.kind
perform-like t (joining p now) = join-like now p t
perform-like t (leaving i last now) = leave-like now i last t (sub_of i t)
perform-like t (asking i q) = ask-like i t q
perform-like t (unmarking i) = same_kept 0 t.idle _ _ refl refl
perform-like t (releasing i now) = release-like now i t
perform-like t (sweeping now most) = sweep-like now most t
perform-like t clearing = same_kept 0 t.idle _ _ refl refl
perform-like t (adding i) = same_none 0 t.idle _ _ refl refl
perform-like t (removing i now) = touch-like now (due now t) 0 (with_audits (keep (λ a. not (audit_of i a)) t.audits) (with_producers (keep (λ j. not (same_id j i)) t.producers) t))
perform-like t (testing i q) = same_kept 0 t.idle _ _ refl (either (λ (r : Answer). r.dest.idle) (eqb i.conn 0) _ _ t.idle refl (test-idle i q t (find (audit_of i) t.audits)))
perform-like t (forgetting conn) = same_kept 0 t.idle _ _ refl refl
perform-like t discarding = same_kept 0 t.idle _ _ refl refl
perform-like t missing = same_kept 0 t.idle _ _ refl refl

-- ---- refusals

-- an earlier clock is in its range
earlier-ok : (now a : ℕ) → clock_ok now ≡ true → clock_ok now ≡ clock_ok (now - a)
earlier-ok now a h = h ∙ sym (le-leb (now - a) (2 ^ 62) (omega (arith, leb-true now (2 ^ 62) h)))

request-ok : (a : ℕ) (q : Request) → clock_ok (asked_at q) ≡ true → request_ok q ≡ request_ok (asked_less a q)
request-ok a (acknowledge k now) h = ap (λ b. ack_ok k && b) (earlier-ok now a h)
request-ok a (pulling timeout now) h = ap (λ b. signed_within (2 ^ 63) timeout && b) (earlier-ok now a h)
request-ok a (timed_out generation) h = refl
request-ok a (prefetching p now) h = ap (λ b. signed_within (2 ^ 31) p && b) (earlier-ok now a h)

arguments-ok : (a : ℕ) (c : Call) → clock_ok (call_clock c) ≡ true → arguments_ok c ≡ arguments_ok (at_less a c)
unfolding arguments_ok
arguments-ok a (enqueuing e now) h = ap (λ b. entry_ok e && b) (earlier-ok now a h)
arguments-ok a (joining p now) h = ap (λ b. spec_ok p && b) (earlier-ok now a h)
arguments-ok a (leaving i last now) h = ap (λ b. id_ok i && (signed_within (2 ^ 63) last && b)) (earlier-ok now a h)
arguments-ok a (asking i q) h = ap (λ b. id_ok i && b) (request-ok a q h)
arguments-ok a (unmarking i) h = refl
arguments-ok a (releasing i now) h = ap (λ b. id_ok i && b) (earlier-ok now a h)
arguments-ok a (sweeping now most) h = ap (λ b. b && leb most 512) (earlier-ok now a h)
arguments-ok a clearing h = refl
arguments-ok a (adding i) h = refl
arguments-ok a (removing i now) h = ap (λ b. id_ok i && b) (earlier-ok now a h)
arguments-ok a (testing i q) h = refl
arguments-ok a (forgetting conn) h = refl
arguments-ok a discarding h = refl
arguments-ok a missing h = refl

own_same : (t : Dest) (c : Call) → own_refusal t c ≡ plain_own_refusal t (at_less t.allowance c)
unfolding own_refusal plain_own_refusal
own_same t (enqueuing e now) = refl
own_same t (joining p now) = refl
own_same t (leaving i last now) = refl
own_same t (asking i q) = refl
own_same t (unmarking i) = refl
own_same t (releasing i now) = refl
own_same t (sweeping now most) = refl
own_same t clearing = refl
own_same t (adding i) = refl
own_same t (removing i now) = refl
own_same t (testing i q) = refl
own_same t (forgetting conn) = refl
own_same t discarding = refl
own_same t missing = refl

refusal-same : (lent : Lengths) (c : Call) (t : Dest) → clock_ok (call_clock c) ≡ true → refusal lent c t ≡ plain_refusal lent (at_less t.allowance c) t
unfolding refusal plain_refusal
refusal-same lent c t h =
    ap₂ (λ (b : Bool) (n : ℕ). whether short lent then 1 else whether not (sound t) then 2 else whether not b then 3 else whether eqb t.calls_used t.call_limit then 9 else n) (arguments-ok t.allowance c h) (own_same t c)

abbrev answered : Answer → Result
answered r = record { refusal = 0; answer = r.answer; events = r.events; dest = used r.dest }

pub as-earlier : AsEarlier
unfolding call plain_call
as-earlier lent c t h =
    subst (λ (n : ℕ). Beside now t (call lent c t) (whether eqb n 0 then answered p else refused n t)) (refusal-same lent c t h) (go (eqb (refusal lent c t) 0))
  where
    now : ℕ
    now = call_clock c

    p : Answer
    p = plain_perform t (at_less t.allowance c)

    l : Like now t.idle (perform t c) p
    l = perform-like t c

    go : (b : Bool) → Beside now t (whether b then answered (perform t c) else refused (refusal lent c t) t) (whether b then answered p else refused (refusal lent c t) t)
    go true = record { refusal = refl; answer = l.answer; events = l.events; dest = ap used l.dest; idle = l.idle }
    go false = record { refusal = refl; answer = refl; events = refl; dest = refl; idle = mark-same now t.idle }
