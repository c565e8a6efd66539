-- Who is present, by the accepted joins and leaves. Assumes nothing.
use Prim.Native.Nat.{ℕ, zero, suc, ◌+◌, ◌-◌}
use native.Mathlib.Omega.{arith}
use mathlib.Core.Path.{◌≡◌, refl, sym, ◌∙◌, ap, subst}
use mathlib.Core.Bool.{Bool, true, false, not, ◌||◌}
use mathlib.Core.List.{List, [], ◌∷◌, ◌++◌, map}
use mathlib.Core.Option.{Option, none, some}
use lib.Dec.{ltb, eqb}
use lib.IntN.{ℤ, pos}
use lib.Signed.{lt_z}
use lib.ListN.{length, set}
use borrow.Author.Tests.{eqb-true, not-true}
use Rattle.audit.specs.Audit.{seen}
use Rattle.model.proofs.Ids.{same_id_lem}
use Rattle.definition.specs.Base.{whether◌then◌else◌, keep, find, put, nth, empty, all, is_some}
use Rattle.definition.specs.Types.{Kind, queue, topic, Id, Entry, Sub, Audit, Dest, with_prefetch, with_pull, with_generation, with_cursor, with_pending, with_subs, with_reserved}
use Rattle.definition.specs.Consumer.{same_id, zero_stats, add_expired, expired, Browse, dispatch_browser, is_browser, has_credit, accepts, send, send_null, snapshot, redelivered, Ack, ack_sub, at_rest}
use Rattle.definition.specs.Destination.{Out, Answer, Spec, Look, look, given, Turn, visit_at, visit, scan, turns, rounds, browsers, dispatch_queue, serve_all, dispatch_topic, dispatch_by, dispatch, due, touch_idle, count, is_id, sub_of, put_sub, hold_back, hold_back_all, fan_out, fan_out_all, stored, fanned_out, enqueue_by, room, new_sub, joined, add_sub, prefetch_at, set_prefetch, reinsert, held_by, reserved_of, ack_reserved, ack_at, ack, pulled, resumed, pull_at, pull, fired, timeout_at, pull_timeout, returned_from, reserved_from, without, returning, drop_sub, remove_at, remove_sub, no_tx, return_reserved, sweep_list, sweep_subs, sweep_expired, cleared, clear, audit_of, test_at, is_duplicate}
use Rattle.definition.specs.Calls.{Lengths, short, distinct_ids, sound, Request, acknowledge, pulling, timed_out, prefetching, Call, enqueuing, joining, leaving, asking, unmarking, releasing, sweeping, clearing, adding, removing, testing, forgetting, discarding, missing, arguments_ok, ask, perform, Result, refusal, call}
use Rattle.definition.specs.Words.{provided, read, ranged_call, decode, open_words, open_step, call_step, step}
use Rattle.definition.specs.Orders.{Reached, opening, calling, discards, misses}
use Rattle.definition.specs.Histories.{among, present_after, present_in, PresentByHistory}
use Rattle.definition.proofs.Tests.{by-if, by-test, if-true, if-false, and_left, and_right}
use Rattle.definition.proofs.Lists.{none-some, some_inj}
use Rattle.definition.proofs.Local.{drained-id, browsed-id, browsed}
use Rattle.definition.proofs.Own.{ack-id}
use Rattle.definition.proofs.Room.{touch-subs}
use Rattle.definition.proofs.Sound.{facts}
use Rattle.definition.proofs.Made.{call-accepted, none-refused, step_call}
use Rattle.definition.proofs.Kept.{reached-sound}

abbrev ids_of : List Sub → List Id
ids_of l = map (λ s. s.id) l

-- the IDs of a state's consumers
abbrev ids : Dest → List Id
ids t = ids_of t.subs

-- where both sides have it, the choice has it
either : {A B : Type 0} (f : A → B) (b : Bool) (x y : A) (n : B) → f x ≡ n → f y ≡ n → f (whether b then x else y) ≡ n
either f true x y n p q = p
either f false x y n p q = q

ids-map : (f : Sub → Sub) (l : List Sub) → ((s : Sub) → (f s).id ≡ s.id) → ids_of (map f l) ≡ ids_of l
ids-map f [] h = refl
ids-map f (s ∷ l) h = ap (λ i. i ∷ ids_of (map f l)) (h s) ∙ ap (λ m. s.id ∷ m) (ids-map f l h)

ids_set : (i : ℕ) (l : List Sub) (s v : Sub) → nth i l ≡ some s → v.id ≡ s.id → ids_of (set l i v) ≡ ids_of l
ids_set i [] s v e h = refl
ids_set zero (r ∷ l) s v e h = ap (λ x. x ∷ ids_of l) (h ∙ ap (λ x. x.id) (sym (some_inj e)))
ids_set (suc i) (r ∷ l) s v e h = ap (λ x. r.id ∷ x) (ids_set i l s v e h)

ids-put : (p : Sub → Bool) (l : List Sub) (s v : Sub) → find p l ≡ some s → v.id ≡ s.id → ids_of (put p v l) ≡ ids_of l
ids-put p [] s v f h = refl
ids-put p (c ∷ l) s v f h = by-test (p c)
    (λ e. rw e (ap (λ x. x ∷ ids_of l) (h ∙ ap (λ x. x.id) (sym (some_inj (sym (if-true (some c) (find p l) e) ∙ f))))))
    (λ e. rw e (ap (λ x. c.id ∷ x) (ids-put p l s v (sym (if-false (some c) (find p l) e) ∙ f) h)))

-- ---- a dispatch

given-ids : (i : ℕ) (s : Sub) (l : Look) (t : Dest) (o : Option Entry) → nth i t.subs ≡ some s → ids (given i s l t o).dest ≡ ids t
unfolding given
given-ids i s l t none h = ids_set i t.subs s (with_cursor l.cursor s) h refl
given-ids i s l t (some e) h = ids_set i t.subs s (send e (with_cursor l.cursor s)) h refl

visit-ids : (now i : ℕ) (t : Dest) (o : Option Sub) → nth i t.subs ≡ o → ids (visit_at now i t o).dest ≡ ids t
unfolding visit_at
visit-ids now i t none h = refl
visit-ids now i t (some s) h =
    let l = look now s s.cursor t.pending in
    either (λ (r : Turn). ids r.dest) (is_browser s || not (has_credit s)) (record { took = false; dest = t; events = [] }) (given i s l t l.chosen) (ids t) refl (given-ids i s l t l.chosen h)

scan-ids : (now : ℕ) (is : List ℕ) (t : Dest) → ids (scan now is t).dest ≡ ids t
unfolding scan visit
scan-ids now [] t = refl
scan-ids now (i ∷ is) t =
    let here = visit now i t in
    let v : ids here.dest ≡ ids t = visit-ids now i t (nth i t.subs) refl in
    either (λ (r : Turn). ids r.dest) here.took here (scan now is here.dest) (ids t) v (scan-ids now is here.dest ∙ v)

rounds-ids : (fuel now : ℕ) (t : Dest) → ids (rounds fuel now t).dest ≡ ids t
unfolding rounds
rounds-ids zero now t = refl
rounds-ids (suc fuel) now t =
    let here = scan now (turns t) t in
    let later = rounds fuel now here.dest in
    let v : ids here.dest ≡ ids t = scan-ids now (turns t) t in
    either (λ (r : Out). ids r.dest) (not here.took || empty here.dest.pending) (record { dest = here.dest; events = here.events }) (record { dest = later.dest; events = here.events ++ later.events }) (ids t) v (rounds-ids fuel now here.dest ∙ v)

browse-id : (now : ℕ) (p : List Entry) (s : Sub) → (browsed now p s).sub.id ≡ s.id
browse-id now p s = by-if (λ (b : Browse). b.sub.id ≡ s.id) (is_browser s) (dispatch_browser now p s) _ (λ c. browsed-id now (snapshot s) (record { sub = s; pending = p; counts = zero_stats; events = [] })) (λ c. refl)

browsers-ids : (now : ℕ) (l : List Sub) (p : List Entry) → ids_of (browsers now l p).subs ≡ ids_of l
unfolding browsers
browsers-ids now [] p = refl
browsers-ids now (s ∷ l) p = ap (λ x. x ∷ ids_of (browsers now l (browsed now p s).pending).subs) (browse-id now p s) ∙ ap (λ m. s.id ∷ m) (browsers-ids now l (browsed now p s).pending)

serve_all-ids : (now : ℕ) (l : List Sub) → ids_of (serve_all now l).subs ≡ ids_of l
unfolding serve_all
serve_all-ids now [] = refl
serve_all-ids now (s ∷ l) = ap (λ x. x ∷ ids_of (serve_all now l).subs) (drained-id now s.tpending (at_rest s)) ∙ ap (λ m. s.id ∷ m) (serve_all-ids now l)

by-ids : (now : ℕ) (t : Dest) (k : Kind) → ids (dispatch_by now t k).dest ≡ ids t
unfolding dispatch_by dispatch_topic dispatch_queue
by-ids now t topic = serve_all-ids now t.subs
by-ids now t queue =
    let b = browsers now t.subs t.pending in
    let u = count b.counts (with_pending b.pending (with_subs b.subs t)) in
    let r = rounds (suc (length b.pending)) now u in
    either (λ (o : Out). ids o.dest) (empty t.subs) (record { dest = t; events = [] }) (record { dest = r.dest; events = b.events ++ r.events }) (ids t) refl (rounds-ids (suc (length b.pending)) now u ∙ browsers-ids now t.subs t.pending)

dispatch-ids : (now : ℕ) (t : Dest) → ids (dispatch now t).dest ≡ ids t
dispatch-ids now t = by-ids (due now t) t t.kind

touch-ids : (now : ℕ) (t : Dest) → ids (touch_idle now t) ≡ ids t
touch-ids now t = ap ids_of (touch-subs now t)

-- ---- calls of those that are there

found-put : (i : Id) (v s : Sub) (t : Dest) → sub_of i t ≡ some s → v.id ≡ s.id → ids (put_sub i v t) ≡ ids t
found-put i v s t f h = ids-put (is_id i) t.subs s v f h

ack-ids : (now : ℕ) (i : Id) (a : Ack) (t : Dest) (o : Option Sub) → sub_of i t ≡ o → ids (ack_at now i a t o).dest ≡ ids t
unfolding ack_at ack_reserved
ack-ids now i a t none f = either (λ (r : Out). ids r.dest) (a.transacted || empty (reserved_of i t)) (record { dest = t; events = [] }) _ (ids t) refl
    (dispatch-ids now (touch_idle now (ack_reserved i a t a.last).dest) ∙ touch-ids now (ack_reserved i a t a.last).dest ∙ reserved a.last)
  where
    reserved : (o : Option ℕ) → ids (ack_reserved i a t o).dest ≡ ids t
    reserved none = refl
    reserved (some last) = refl
ack-ids now i a t (some s) f =
    let k = ack_sub a s in
    let u = count k.counts (put_sub i k.sub t) in
    dispatch-ids now (touch_idle now u) ∙ touch-ids now u ∙ found-put i k.sub s t f (ack-id a s)

pulled-ids : (i : Id) (timeout : ℤ) (s : Sub) (r : Out) (o : Option ℕ) → sub_of i r.dest ≡ some s → ids (pulled i timeout s r o).dest ≡ ids r.dest
unfolding pulled
pulled-ids i timeout s r none f = refl
pulled-ids i timeout s r (some g) f = either (λ (a : Answer). ids a.dest) (lt_z timeout (pos 0)) _ _ (ids r.dest) (found-put i (send_null s) s r.dest f refl)
    (either (λ (a : Answer). ids a.dest) (lt_z (pos 0) timeout) _ _ (ids r.dest) refl refl)

resumed-ids : (i : Id) (timeout : ℤ) (r : Out) (o : Option Sub) → sub_of i r.dest ≡ o → ids (resumed i timeout r o).dest ≡ ids r.dest
unfolding resumed
resumed-ids i timeout r none f = refl
resumed-ids i timeout r (some s) f = pulled-ids i timeout s r s.pull f

pull-ids : (now : ℕ) (i : Id) (timeout : ℤ) (t : Dest) (o : Option Sub) → sub_of i t ≡ o → ids (pull_at now i timeout t o).dest ≡ ids t
unfolding pull_at
pull-ids now i timeout t none f = refl
pull-ids now i timeout t (some s) f =
    let v = with_pull (some (s.generation + 1)) (with_generation (s.generation + 1) s) in
    let r = dispatch now (put_sub i v t) in
    either (λ (a : Answer). ids a.dest) (ltb 0 s.prefetch) _ _ (ids t) refl (resumed-ids i timeout r (sub_of i r.dest) refl ∙ dispatch-ids now (put_sub i v t) ∙ found-put i v s t f refl)

fired-ids : (i : Id) (generation : ℕ) (s : Sub) (t : Dest) (o : Option ℕ) → sub_of i t ≡ some s → ids (fired i generation s t o).dest ≡ ids t
unfolding fired
fired-ids i generation s t none f = refl
fired-ids i generation s t (some g) f = either (λ (r : Out). ids r.dest) (eqb g generation) _ _ (ids t) (found-put i (send_null s) s t f refl) refl

timeout-ids : (i : Id) (generation : ℕ) (t : Dest) (o : Option Sub) → sub_of i t ≡ o → ids (timeout_at i generation t o).dest ≡ ids t
unfolding timeout_at
timeout-ids i generation t none f = refl
timeout-ids i generation t (some s) f = fired-ids i generation s t s.pull f

prefetch-ids : (i : Id) (p : ℤ) (t : Dest) (o : Option Sub) → sub_of i t ≡ o → ids (prefetch_at i p t o) ≡ ids t
prefetch-ids i p t none f = refl
prefetch-ids i p t (some s) f = found-put i (with_prefetch (room p) s) s t f refl

ask-ids : (i : Id) (t : Dest) (q : Request) → ids (ask i t q).dest ≡ ids t
unfolding ask ack pull pull_timeout set_prefetch
ask-ids i t (acknowledge a now) = ack-ids now i a t (sub_of i t) refl
ask-ids i t (pulling timeout now) = pull-ids now i timeout t (sub_of i t) refl
ask-ids i t (timed_out generation) = timeout-ids i generation t (sub_of i t) refl
ask-ids i t (prefetching p now) = dispatch-ids now (prefetch_at i p t (sub_of i t)) ∙ prefetch-ids i p t (sub_of i t) refl

-- ---- the other calls

fan-ids : (now limit : ℕ) (e : Entry) (l : List Sub) → ids_of (fan_out_all now limit e l).subs ≡ ids_of l
unfolding fan_out_all fan_out
fan-ids now limit e [] = refl
fan-ids now limit e (s ∷ l) = by-test (accepts s e) (λ c. rw c (ap (λ m. s.id ∷ m) (fan-ids now limit e l))) (λ c. rw c (ap (λ m. s.id ∷ m) (fan-ids now limit e l)))

enqueue-ids : (now : ℕ) (e : Entry) (t : Dest) (k : Kind) → ids (enqueue_by now e t k).dest ≡ ids t
unfolding enqueue_by dispatch_by
enqueue-ids now e t queue = by-ids (due now t) (stored e t) queue ∙ ids-map (hold_back e.seq) t.subs (λ s. refl)
enqueue-ids now e t topic = by-ids (due now t) (fanned_out (due now t) e t) topic ∙ fan-ids (due now t) t.topic_limit e t.subs

back-id : (es : List Entry) (s : Sub) → (hold_back_all es s).id ≡ s.id
back-id [] s = refl
back-id (e ∷ es) s = back-id es (hold_back e.seq s)

reinsert-ids : (now : ℕ) (es : List Entry) (t : Dest) → ids (reinsert now es t) ≡ ids t
unfolding reinsert
reinsert-ids now es t = let live = keep (λ e. not (expired (pos (due now t)) e)) es in ids-map (hold_back_all live) t.subs (back-id live)

returning-ids : (now : ℕ) (s : Sub) (last : ℤ) (t : Dest) (k : Kind) → ids (returning now s last t k) ≡ ids t
unfolding returning
returning-ids now s last t topic = refl
returning-ids now s last t queue = either ids (is_browser s) t _ (ids t) refl (reinsert-ids now (returned_from last s.inflight) (with_reserved (t.reserved ++ reserved_from s.id s.inflight) t))

release-ids : (now : ℕ) (i : Id) (t : Dest) → ids (return_reserved now i t).dest ≡ ids t
unfolding return_reserved
release-ids now i t =
    let u = with_reserved (keep (λ h. not (held_by i h)) t.reserved) t in
    either (λ (r : Out). ids r.dest) (empty (reserved_of i t)) (record { dest = t; events = [] }) _ (ids t) refl
    (dispatch-ids now (reinsert now (map redelivered (reserved_of i t)) u) ∙ reinsert-ids now (map redelivered (reserved_of i t)) u)

sweeps-ids : (budget now : ℕ) (l : List Sub) → ids_of (sweep_subs budget now l).subs ≡ ids_of l
unfolding sweep_subs
sweeps-ids budget now [] = refl
sweeps-ids budget now (s ∷ l) = ap (λ m. s.id ∷ m) (sweeps-ids (budget - (sweep_list budget now s.tpending).gone) now l)

sweep-ids : (now most : ℕ) (t : Dest) → ids (sweep_expired now most t).dest ≡ ids t
unfolding sweep_expired
sweep-ids now most t =
    let w = sweep_list most (due now t) t.pending in
    let r = sweep_subs (most - w.gone) (due now t) t.subs in
    let swept = count (add_expired (w.gone + r.gone)) (with_pending w.list (with_subs r.subs t)) in
    let v : ids swept ≡ ids t = sweeps-ids (most - w.gone) (due now t) t.subs in
    either (λ (a : Answer). ids a.dest) (ltb 0 (w.gone + r.gone)) (record { answer = w.gone + r.gone; dest = touch_idle now swept; events = [] }) (record { answer = 0; dest = swept; events = [] }) (ids t)
    (touch-ids now swept ∙ v) v

test-ids : (i : Id) (q : ℕ) (t : Dest) (o : Option Audit) → ids (test_at i q t o).dest ≡ ids t
unfolding test_at
test-ids i q t none = refl
test-ids i q t (some a) = either (λ (r : Answer). ids r.dest) (seen q a.order) _ _ (ids t) refl refl

-- ---- a join and a leave

ids-end : (l : List Sub) (v : Sub) → ids_of (l ++ v ∷ []) ≡ ids_of l ++ v.id ∷ []
ids-end [] v = refl
ids-end (s ∷ l) v = ap (λ m. s.id ∷ m) (ids-end l v)

joined-ids : (now : ℕ) (p : Spec) (t : Dest) → ids (joined now p t) ≡ ids t ++ p.id ∷ []
joined-ids now p t = either ids p.browser _ _ (ids t ++ p.id ∷ []) (ids-end t.subs _) (ids-end t.subs (new_sub p none))

-- without an ID that is there once, or not at all
none_kept : (i : Id) (l : List Sub) → all (λ r. not (same_id r.id i)) l ≡ true → keep (λ j. not (same_id j i)) (ids_of l) ≡ ids_of l
none_kept i [] h = refl
none_kept i (s ∷ l) h = rw (not-true (same_id s.id i) (and_left (not (same_id s.id i)) _ h)) (ap (λ m. s.id ∷ m) (none_kept i l (and_right (not (same_id s.id i)) _ h)))

without-ids : (i : Id) (l : List Sub) → distinct_ids l ≡ true → ids_of (without (is_id i) l) ≡ keep (λ j. not (same_id j i)) (ids_of l)
without-ids i [] h = refl
without-ids i (s ∷ l) h = by-test (same_id s.id i)
    (λ c. rw c (sym (none_kept i l (subst (λ (j : Id). all (λ r. not (same_id r.id j)) l ≡ true) (same_id_lem s.id i c) (and_left (all (λ r. not (same_id r.id s.id)) l) (distinct_ids l) h)))))
    (λ c. rw c (ap (λ m. s.id ∷ m) (without-ids i l (and_right (all (λ r. not (same_id r.id s.id)) l) (distinct_ids l) h))))

absent-kept : (i : Id) (l : List Sub) → find (is_id i) l ≡ none → keep (λ j. not (same_id j i)) (ids_of l) ≡ ids_of l
absent-kept i [] h = refl
absent-kept i (s ∷ l) h = by-test (same_id s.id i)
    (λ c. absurd (none-some (sym h ∙ if-true (some s) (find (is_id i) l) c)))
    (λ c. rw c (ap (λ m. s.id ∷ m) (absent-kept i l (sym (if-false (some s) (find (is_id i) l) c) ∙ h))))

remove-ids : (now : ℕ) (i : Id) (last : ℤ) (t : Dest) (o : Option Sub) → sub_of i t ≡ o → distinct_ids t.subs ≡ true → ids (remove_at now i last t o).dest ≡ keep (λ j. not (same_id j i)) (ids t)
unfolding remove_at
remove-ids now i last t none f d = sym (absent-kept i t.subs f)
remove-ids now i last t (some s) f d =
    let u = returning now s last (drop_sub i t) t.kind in
    dispatch-ids now (touch_idle now u) ∙ touch-ids now u ∙ returning-ids now s last (drop_sub i t) t.kind ∙ without-ids i t.subs d

-- ---- every call

abbrev present_by : Call → List Id → List Id
present_by (joining p now) l = l ++ p.id ∷ []
present_by (leaving i last now) l = keep (λ j. not (same_id j i)) l
present_by (enqueuing e now) l = l
present_by (asking i q) l = l
present_by (unmarking i) l = l
present_by (releasing i now) l = l
present_by (sweeping now most) l = l
present_by clearing l = l
present_by (adding i) l = l
present_by (removing i now) l = l
present_by (testing i q) l = l
present_by (forgetting conn) l = l
present_by discarding l = l
present_by missing l = l

perform-ids : (t : Dest) (c : Call) → distinct_ids t.subs ≡ true → ids (perform t c).dest ≡ present_by c (ids t)
unfolding perform add_sub remove_sub clear is_duplicate
perform-ids t (joining p now) d = dispatch-ids now (joined now p t) ∙ joined-ids now p t
perform-ids t (leaving i last now) d = remove-ids now i last t (sub_of i t) refl d
perform-ids t (enqueuing e now) d = enqueue-ids now e t t.kind
perform-ids t (asking i q) d = ask-ids i t q
perform-ids t (unmarking i) d = ids-map (λ s. whether is_id i s then no_tx s else s) t.subs (λ s. either (λ (v : Sub). v.id) (is_id i s) (no_tx s) s s.id refl refl)
perform-ids t (releasing i now) d = release-ids now i t
perform-ids t (sweeping now most) d = sweep-ids now most t
perform-ids t clearing d = ids-map cleared t.subs (λ s. refl)
perform-ids t (adding i) d = refl
perform-ids t (removing i now) d = touch-ids now _
perform-ids t (testing i q) d = either (λ (r : Answer). ids r.dest) (eqb i.conn 0) _ _ (ids t) refl (test-ids i q t (find (audit_of i) t.audits))
perform-ids t (forgetting conn) d = refl
perform-ids t discarding d = refl
perform-ids t missing d = refl

call-ids : (lent : Lengths) (c : Call) (t : Dest) → sound t ≡ true → (call lent c t).refusal ≡ 0 → ids (call lent c t).dest ≡ present_by c (ids t)
unfolding call
call-ids lent c t s h = rw (call-accepted lent c t h) (perform-ids t c (facts t s).ids)

-- ---- the words of a call

abbrev Says : ℕ → List ℕ → Option Call → Type 0
Says code ws o = (c : Call) → o ≡ some c → (l : List Id) → present_after code ws l ≡ present_by c l

given-says : (code n : ℕ) (ws : List ℕ) (b : Bool) (d : Call) → eqb code n ≡ true → ((l : List Id) → present_after n ws l ≡ present_by d l) → Says code ws (provided b d)
unfolding provided
given-says code n ws true d e h c q l = ap (λ k. present_after k ws l) (eqb-true code n e) ∙ h l ∙ ap (λ x. present_by x l) (some_inj q)
given-says code n ws false d e h c q l = absurd (none-some q)

read-says : (code : ℕ) (ws : List ℕ) → Says code ws (read code ws)
unfolding read
read-says code ws =
    let P = Says code ws in
    by-if P (eqb code 1) _ _ (λ e. given-says code 1 ws _ _ e (λ l. refl))
    (λ e. by-if P (eqb code 2) _ _ (λ e. given-says code 2 ws _ _ e (λ l. refl))
    (λ e. by-if P (eqb code 3) _ _ (λ e. given-says code 3 ws _ _ e (λ l. refl))
    (λ e. by-if P (eqb code 4) _ _ (λ e. given-says code 4 ws _ _ e (λ l. refl))
    (λ e. by-if P (eqb code 5) _ _ (λ e. given-says code 5 ws _ _ e (λ l. refl))
    (λ e. by-if P (eqb code 6) _ _ (λ e. given-says code 6 ws _ _ e (λ l. refl))
    (λ e. by-if P (eqb code 7) _ _ (λ e. given-says code 7 ws _ _ e (λ l. refl))
    (λ e. by-if P (eqb code 8) _ _ (λ e. given-says code 8 ws _ _ e (λ l. refl))
    (λ e. by-if P (eqb code 9) _ _ (λ e. given-says code 9 ws _ _ e (λ l. refl))
    (λ e. by-if P (eqb code 10) _ _ (λ e. given-says code 10 ws _ _ e (λ l. refl))
    (λ e. by-if P (eqb code 11) _ _ (λ e. given-says code 11 ws _ _ e (λ l. refl))
    (λ e. by-if P (eqb code 12) _ _ (λ e. given-says code 12 ws _ _ e (λ l. refl))
    (λ e. by-if P (eqb code 13) _ _ (λ e. given-says code 13 ws _ _ e (λ l. refl))
    (λ e. by-if P (eqb code 14) _ _ (λ e. given-says code 14 ws _ _ e (λ l. refl))
    (λ e. by-if P (eqb code 15) _ _ (λ e. given-says code 15 ws _ _ e (λ l. refl))
    (λ e c q. absurd (none-some q))))))))))))))))

in_range-says : (code : ℕ) (ws : List ℕ) (o : Option Call) → Says code ws o → Says code ws (ranged_call o)
unfolding provided
in_range-says code ws none h = h
in_range-says code ws (some d) h = by-if (Says code ws) (arguments_ok d) (some d) none (λ e. h) (λ e c q. absurd (none-some q))

coded-ids : (lent : Lengths) (code : ℕ) (ws : List ℕ) (t : Dest) (o : Option Call) → Says code ws o → sound t ≡ true → (call_step lent t o).refusal ≡ 0 → ids (call_step lent t o).dest ≡ present_after code ws (ids t)
unfolding call_step
coded-ids lent code ws t none p s h = absurd (none-refused lent t h)
coded-ids lent code ws t (some c) p s h = call-ids lent c t s h ∙ sym (p c refl (ids t))

-- ---- along a history

open-ids : (lent : Lengths) (ws : List ℕ) (t : Dest) → (step lent 0 ws t).refusal ≡ 0 → ids (step lent 0 ws t).dest ≡ []
unfolding step open_step
open-ids lent ws t = by-if (λ (r : Result). r.refusal ≡ 0 → ids r.dest ≡ []) (short lent) _ _ (λ e h. absurd (omega (arith, h)))
    (λ e. by-if (λ (r : Result). r.refusal ≡ 0 → ids r.dest ≡ []) (open_words ws) _ _ (λ f h. refl) (λ f h. absurd (omega (arith, h))))

in_order_lem : (b : Bool) (t : Dest) (r : Reached b t) → ids t ≡ present_in b t r
unfolding decode
in_order_lem b t (opening lent ws u h) = open-ids lent ws u h
in_order_lem b t (calling {b = d} {t = u} lent code ws low r h) =
    let e = step_call lent code ws u low in
    ap (λ (x : Result). ids x.dest) e
    ∙ coded-ids lent code ws u (decode code ws) (in_range-says code ws (read code ws) (read-says code ws)) (reached-sound d u r) (sym (ap (λ (x : Result). x.refusal) e) ∙ h)
    ∙ ap (present_after code ws) (in_order_lem d u r)
in_order_lem b t (discards {t = u} lent r h) = call-ids lent discarding u (reached-sound b u r) h ∙ in_order_lem b u r
in_order_lem b t (misses {t = u} lent r h) = call-ids lent missing u (reached-sound b u r) h ∙ in_order_lem b u r

found_among : (i : Id) (l : List Sub) → is_some (find (is_id i) l) ≡ among i (ids_of l)
found_among i [] = refl
found_among i (s ∷ l) = by-test (same_id s.id i) (λ c. rw c) (λ c. rw c (found_among i l))

pub present-by-history : PresentByHistory
present-by-history b t r = let o = in_order_lem b t r in record { in_order = o; there = λ i. found_among i t.subs ∙ ap (among i) o }
