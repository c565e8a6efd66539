-- The dead letters of an accepted call are those of its `x` events: a dispatch sends none. Assumes nothing.
use Prim.Native.Nat.{ℕ, zero, suc, ◌-◌, ◌+◌}
use mathlib.Core.Path.{◌≡◌, refl, sym, ◌∙◌, ap}
use mathlib.Core.Bool.{Bool, true, false, not, ◌&&◌, ◌||◌}
use mathlib.Core.List.{List, [], ◌∷◌, ◌++◌, map, append-nil}
use mathlib.Core.Option.{Option, none, some}
use lib.Dec.{ltb, eqb}
use lib.IntN.{ℤ, pos}
use lib.Signed.{lt_z}
use Rattle.audit.specs.Audit.{seen}
use Rattle.definition.specs.Base.{whether◌then◌else◌, keep, nth, empty}
use Rattle.definition.specs.Types.{Kind, queue, topic, Id, Entry, Inflight, Sub, Audit, Dest, Event, letter, message, null}
use Rattle.definition.specs.Consumer.{zero_stats, expired, is_browser, snapshot, has_credit, dead_letters, Ack, AckType, Delivered, Poison, Standard, Redelivered, Individual, Unmatched, Expired, Other, ack_type, ack_range, ack_plain, ack_sub, Step, meet_topic, drain_topic, at_rest, serve_topic, Browse, meet_browser, close_browser, drain_browser, dispatch_browser}
use Rattle.definition.specs.Destination.{due, Out, Answer, Look, look, given, visit_at, visit, scan, turns, rounds, browsers, dispatch_queue, serve_all, dispatch_topic, dispatch_by, count, stored, fanned_out, enqueue_by, sub_of, put_sub, touch_idle, add_sub, set_prefetch, reserved_of, reserved_hit, letters, reserved_events, ack_reserved, ack_at, ack, pulled, resumed, pull_at, pull, fired, timeout_at, pull_timeout, remove_at, remove_sub, return_reserved, sweep_list, sweep_subs, sweep_expired, clear, test_at, is_duplicate}
use Rattle.definition.specs.Calls.{acknowledge, pulling, timed_out, prefetching, ask, Call, enqueuing, joining, leaving, asking, unmarking, releasing, sweeping, clearing, adding, removing, testing, forgetting, discarding, missing, perform, Result, call}
use Rattle.definition.specs.Words.{decode, call_step}
use Rattle.definition.proofs.Tests.{by-if, by-test}
use Rattle.definition.proofs.Lists.{empty-nil}
use Rattle.definition.proofs.Made.{step_call, call-accepted, none-refused}
use Rattle.definition_station.specs.Letters.{is_poison, lasting, taken_reserved, rejected_of, rejected_by, rejected, whole}
use Rattle.definition_station.specs.Claims.{letters_in, LettersSent}
use Rattle.definition_station.proofs.Grow.{browsed}

-- no `x`
record Quiet (es : List Event) : Type 0 where
  none : letters_in es ≡ []

still : {es : List Event} → letters_in es ≡ [] → Quiet es
still h = record { none = h }

letters-append : (a b : List Event) → letters_in (a ++ b) ≡ letters_in a ++ letters_in b
letters-append [] b = refl
letters-append (letter q r c ∷ a) b = ap (λ (l : List (ℕ × ℤ)). (q, r) ∷ l) (letters-append a b)
letters-append (message i q r ∷ a) b = letters-append a b
letters-append (null i ∷ a) b = letters-append a b

quiet-append : (a b : List Event) → Quiet a → Quiet b → Quiet (a ++ b)
quiet-append a b p q = still (letters-append a b ∙ rw (p.none, q.none))

-- ---- dispatch

drain-quiet : (now : ℕ) (l : List Entry) (t : Step) → Quiet t.events → Quiet (drain_topic now l t).events
unfolding drain_topic meet_topic
drain-quiet now [] t h = h
drain-quiet now (e ∷ es) t h = by-test (has_credit t.sub)
    (λ c. rw c (drain-quiet now es (meet_topic now e es t) (by-if (λ (x : Step). Quiet x.events) (expired (pos now) e) _ _ (λ c. h) (λ c. quiet-append t.events _ h (still refl)))))
    (λ c. rw c h)

serve-quiet : (now : ℕ) (l : List Sub) → Quiet (serve_all now l).events
unfolding serve_all
serve-quiet now [] = still refl
serve-quiet now (s ∷ l) = quiet-append (serve_topic now s).events _ (drain-quiet now s.tpending (at_rest s) (still refl)) (serve-quiet now l)

browse-quiet : (now : ℕ) (l : List Entry) (b : Browse) → Quiet b.events → Quiet (drain_browser now l b).events
unfolding drain_browser meet_browser close_browser
browse-quiet now [] b h = by-if (λ (x : Browse). Quiet x.events) (has_credit b.sub) (close_browser b) b
    (λ c. by-if (λ (x : Browse). Quiet x.events) b.sub.finished b _ (λ d. h) (λ d. quiet-append b.events _ h (still refl)))
    (λ c. h)
browse-quiet now (e ∷ es) b h = by-test (has_credit b.sub)
    (λ c. rw c (browse-quiet now es (meet_browser now e es b) (by-if (λ (x : Browse). Quiet x.events) (expired (pos now) e) _ _ (λ c. h) (λ c. quiet-append b.events _ h (still refl)))))
    (λ c. rw c h)

browsers-quiet : (now : ℕ) (l : List Sub) (p : List Entry) → Quiet (browsers now l p).events
unfolding browsers
browsers-quiet now [] p = still refl
browsers-quiet now (s ∷ l) p = quiet-append (browsed now p s).events (browsers now l (browsed now p s).pending).events (by-if (λ (b : Browse). Quiet b.events) (is_browser s) (dispatch_browser now p s) (record { sub = s; pending = p; counts = zero_stats; events = [] }) (λ c. browse-quiet now (snapshot s) (record { sub = s; pending = p; counts = zero_stats; events = [] }) (still refl)) (λ c. still refl)) (browsers-quiet now l (browsed now p s).pending)

given-quiet : (i : ℕ) (s : Sub) (l : Look) (t : Dest) (o : Option Entry) → Quiet (given i s l t o).events
unfolding given
given-quiet i s l t none = still refl
given-quiet i s l t (some e) = still refl

visit_at-quiet : (now i : ℕ) (t : Dest) (o : Option Sub) → Quiet (visit_at now i t o).events
unfolding visit_at
visit_at-quiet now i t none = still refl
visit_at-quiet now i t (some s) = by-test (is_browser s || not (has_credit s)) (λ c. rw c (still refl)) (λ c. rw c (given-quiet i s (look now s s.cursor t.pending) t (look now s s.cursor t.pending).chosen))

scan-quiet : (now : ℕ) (is : List ℕ) (t : Dest) → Quiet (scan now is t).events
unfolding scan visit
scan-quiet now [] t = still refl
scan-quiet now (i ∷ is) t = by-test (visit now i t).took
    (λ c. rw c (visit_at-quiet now i t (nth i t.subs)))
    (λ c. rw c (scan-quiet now is (visit now i t).dest))

rounds-quiet : (fuel now : ℕ) (t : Dest) → Quiet (rounds fuel now t).events
unfolding rounds
rounds-quiet zero now t = still refl
rounds-quiet (suc fuel) now t = by-test (not (scan now (turns t) t).took || empty (scan now (turns t) t).dest.pending)
    (λ c. rw c (scan-quiet now (turns t) t))
    (λ c. rw c (quiet-append (scan now (turns t) t).events _ (scan-quiet now (turns t) t) (rounds-quiet fuel now (scan now (turns t) t).dest)))

dispatch-quiet : (k : Kind) (now : ℕ) (t : Dest) → Quiet (dispatch_by now t k).events
unfolding dispatch_by dispatch_topic dispatch_queue
dispatch-quiet topic now t = serve-quiet now t.subs
dispatch-quiet queue now t = by-test (empty t.subs) (λ c. rw c (still refl)) (λ c. rw c (quiet-append (browsers now t.subs t.pending).events _ (browsers-quiet now t.subs t.pending) (rounds-quiet _ now _)))

-- ---- POISON

abbrev shown : List Entry → List (ℕ × ℤ)
shown es = map (λ e. (e.seq, e.redelivery)) es

if-shown : (b : Bool) (x y : List Event) (u v : List Entry) → letters_in x ≡ shown u → letters_in y ≡ shown v → letters_in (whether b then x else y) ≡ shown (whether b then u else v)
if-shown true x y u v p q = p
if-shown false x y u v p q = q

dead-shown : (cause : Bool) (l : List Inflight) → letters_in (dead_letters cause l) ≡ shown (lasting (map (λ f. f.entry) l))
dead-shown cause [] = refl
dead-shown cause (i ∷ l) = if-shown i.entry.persistent (letter i.entry.seq i.entry.redelivery cause ∷ dead_letters cause l) (dead_letters cause l) (i.entry ∷ lasting (map (λ f. f.entry) l)) (lasting (map (λ f. f.entry) l))
    (ap (λ (x : List (ℕ × ℤ)). (i.entry.seq, i.entry.redelivery) ∷ x) (dead-shown cause l)) (dead-shown cause l)

letters-shown : (l : List Entry) → letters_in (letters l) ≡ shown (lasting l)
letters-shown [] = refl
letters-shown (e ∷ l) = if-shown e.persistent (letter e.seq e.redelivery false ∷ letters l) (letters l) (e ∷ lasting l) (lasting l) (ap (λ (x : List (ℕ × ℤ)). (e.seq, e.redelivery) ∷ x) (letters-shown l)) (letters-shown l)

-- of a present consumer
abbrev rejected_from : Ack → Sub → List Entry
rejected_from a s = whether is_browser s then [] else lasting (map (λ f. f.entry) (keep (ack_range s a false) s.inflight))

plain-shown : (y : AckType) (a : Ack) (s : Sub) → letters_in (ack_plain a s y).events ≡ shown (whether is_poison y then rejected_from a s else [])
unfolding ack_plain
plain-shown Poison a s = if-shown (is_browser s) [] (dead_letters a.cause (keep (ack_range s a false) s.inflight)) [] (lasting (map (λ f. f.entry) (keep (ack_range s a false) s.inflight))) refl (dead-shown a.cause (keep (ack_range s a false) s.inflight))
plain-shown Delivered a s = refl
plain-shown Standard a s = refl
plain-shown Redelivered a s = refl
plain-shown Individual a s = refl
plain-shown Unmatched a s = refl
plain-shown Expired a s = refl
plain-shown Other a s = refl

unless : (tx p : Bool) (x y : Step) (u : List Entry) → letters_in x.events ≡ [] → letters_in y.events ≡ shown (whether p then u else []) → letters_in (whether tx then x else y).events ≡ shown (whether not tx && p then u else [])
unless true p x y u q h = q
unless false p x y u q h = h

present-shown : (a : Ack) (s : Sub) → letters_in (ack_sub a s).events ≡ shown (whether not a.transacted && is_poison (ack_type a.type) then rejected_from a s else [])
unfolding ack_sub
present-shown a s = unless a.transacted (is_poison (ack_type a.type)) _ _ (rejected_from a s) refl (plain-shown (ack_type a.type) a s)

-- of an absent one
reserved-shown : (y : AckType) (l : List Entry) → letters_in (reserved_events l y) ≡ shown (whether is_poison y then lasting l else [])
unfolding reserved_events
reserved-shown Poison l = letters-shown l
reserved-shown Delivered l = refl
reserved-shown Standard l = refl
reserved-shown Redelivered l = refl
reserved-shown Individual l = refl
reserved-shown Unmatched l = refl
reserved-shown Expired l = refl
reserved-shown Other l = refl

if_none : (b : Bool) → ◌≡◌ {A = List (ℕ × ℤ)} [] (shown (whether b then [] else []))
if_none true = refl
if_none false = refl

taken-shown : (i : Id) (a : Ack) (t : Dest) (o : Option ℕ) → letters_in (ack_reserved i a t o).events ≡ shown (whether is_poison (ack_type a.type) then lasting (taken_reserved i a t o) else [])
unfolding ack_reserved
taken-shown i a t none = if_none (is_poison (ack_type a.type))
taken-shown i a t (some last) = reserved-shown (ack_type a.type) (keep (λ e. reserved_hit a.first last e (ack_type a.type)) (reserved_of i t))

-- where nothing is reserved, nothing is taken
none-taken : (i : Id) (a : Ack) (t : Dest) (o : Option ℕ) → empty (reserved_of i t) ≡ true → lasting (taken_reserved i a t o) ≡ []
none-taken i a t none h = refl
none-taken i a t (some last) h = ap (λ (l : List Entry). lasting (keep (λ e. reserved_hit a.first last e (ack_type a.type)) l)) (empty-nil (reserved_of i t) h)

absent-cases : (tx e p : Bool) (x y : Out) (u : List Entry) → letters_in x.events ≡ [] → (e ≡ true → u ≡ []) → letters_in y.events ≡ shown (whether p then u else []) → letters_in (whether tx || e then x else y).events ≡ shown (whether not tx && p then u else [])
absent-cases true e p x y u q n h = q
absent-cases false true p x y u q n h = q ∙ if_none p ∙ ap (λ (l : List Entry). shown (whether p then l else [])) (sym (n refl))
absent-cases false false p x y u q n h = h

ack-shown : (now : ℕ) (i : Id) (a : Ack) (t : Dest) (o : Option Sub) → letters_in (ack_at now i a t o).events ≡ shown (whether not a.transacted && is_poison (ack_type a.type) then rejected_of i a t o else [])
unfolding ack_at rejected_of
ack-shown now i a t none = absent-cases a.transacted (empty (reserved_of i t)) (is_poison (ack_type a.type)) _ _ (lasting (taken_reserved i a t a.last)) refl (none-taken i a t a.last)
    (letters-append (ack_reserved i a t a.last).events _ ∙ rw ((dispatch-quiet (touch_idle now (ack_reserved i a t a.last).dest).kind (due now (touch_idle now (ack_reserved i a t a.last).dest)) (touch_idle now (ack_reserved i a t a.last).dest)).none, append-nil (letters_in (ack_reserved i a t a.last).events)) (taken-shown i a t a.last))
ack-shown now i a t (some s) =
    let u : Dest = touch_idle now (count (ack_sub a s).counts (put_sub i (ack_sub a s).sub t)) in
    letters-append (ack_sub a s).events _ ∙ ap (λ (l : List (ℕ × ℤ)). letters_in (ack_sub a s).events ++ l) (dispatch-quiet u.kind (due now u) u).none ∙ append-nil (letters_in (ack_sub a s).events) ∙ present-shown a s

-- ---- the other calls send none

pulled-quiet : (i : Id) (timeout : ℤ) (s : Sub) (r : Out) (o : Option ℕ) → Quiet r.events → Quiet (pulled i timeout s r o).events
unfolding pulled
pulled-quiet i timeout s r none h = h
pulled-quiet i timeout s r (some g) h = by-test (lt_z timeout (pos 0)) (λ c. rw c (quiet-append r.events _ h (still refl))) (λ c. rw c (by-test (lt_z (pos 0) timeout) (λ d. rw d h) (λ d. rw d h)))

resumed-quiet : (i : Id) (timeout : ℤ) (r : Out) (o : Option Sub) → Quiet r.events → Quiet (resumed i timeout r o).events
unfolding resumed
resumed-quiet i timeout r none h = h
resumed-quiet i timeout r (some s) h = pulled-quiet i timeout s r s.pull h

pull-quiet : (now : ℕ) (i : Id) (timeout : ℤ) (t : Dest) (o : Option Sub) → Quiet (pull_at now i timeout t o).events
unfolding pull_at
pull-quiet now i timeout t none = still refl
pull-quiet now i timeout t (some s) = by-test (ltb 0 s.prefetch) (λ c. rw c (still refl)) (λ c. rw c (resumed-quiet i timeout _ _ (dispatch-quiet _ _ _)))

fired-quiet : (i : Id) (generation : ℕ) (s : Sub) (t : Dest) (o : Option ℕ) → Quiet (fired i generation s t o).events
unfolding fired
fired-quiet i generation s t none = still refl
fired-quiet i generation s t (some g) = by-test (eqb g generation) (λ c. rw c (still refl)) (λ c. rw c (still refl))

timeout-quiet : (i : Id) (generation : ℕ) (t : Dest) (o : Option Sub) → Quiet (timeout_at i generation t o).events
unfolding timeout_at
timeout-quiet i generation t none = still refl
timeout-quiet i generation t (some s) = fired-quiet i generation s t s.pull

enqueue-quiet : (k : Kind) (now : ℕ) (e : Entry) (t : Dest) → Quiet (enqueue_by now e t k).events
unfolding enqueue_by dispatch_by
enqueue-quiet queue now e t = dispatch-quiet queue (due now t) (stored e t)
enqueue-quiet topic now e t = dispatch-quiet topic (due now t) (fanned_out (due now t) e t)

leave-quiet : (now : ℕ) (i : Id) (last : ℤ) (t : Dest) (o : Option Sub) → Quiet (remove_at now i last t o).events
unfolding remove_at
leave-quiet now i last t none = still refl
leave-quiet now i last t (some s) = dispatch-quiet _ _ _

release-quiet : (now : ℕ) (i : Id) (t : Dest) → Quiet (return_reserved now i t).events
unfolding return_reserved
release-quiet now i t = by-test (empty (reserved_of i t)) (λ c. rw c (still refl)) (λ c. rw c (dispatch-quiet _ _ _))

test-quiet : (i : Id) (q : ℕ) (t : Dest) (o : Option Audit) → Quiet (test_at i q t o).events
unfolding test_at
test-quiet i q t none = still refl
test-quiet i q t (some a) = by-if (λ (r : Answer). Quiet r.events) (seen q a.order) _ _ (λ c. still refl) (λ c. still refl)

sweep-quiet : (now most : ℕ) (t : Dest) → Quiet (sweep_expired now most t).events
unfolding sweep_expired
sweep-quiet now most t = by-if (λ (r : Answer). Quiet r.events) (ltb 0 ((sweep_list most (due now t) t.pending).gone + (sweep_subs (most - (sweep_list most (due now t) t.pending).gone) (due now t) t.subs).gone)) _ _ (λ c. still refl) (λ c. still refl)

perform-shown : (t : Dest) (c : Call) → letters_in (perform t c).events ≡ shown (rejected t (some c))
unfolding perform rejected rejected_by ask ack pull pull_timeout set_prefetch add_sub remove_sub clear is_duplicate
perform-shown t (asking i (acknowledge a now)) = ack-shown now i a t (sub_of i t)
perform-shown t (asking i (pulling timeout now)) = (pull-quiet now i timeout t (sub_of i t)).none
perform-shown t (asking i (timed_out generation)) = (timeout-quiet i generation t (sub_of i t)).none
perform-shown t (asking i (prefetching p now)) = (dispatch-quiet _ _ _).none
perform-shown t (enqueuing e now) = (enqueue-quiet t.kind now e t).none
perform-shown t (joining p now) = (dispatch-quiet _ _ _).none
perform-shown t (leaving i last now) = (leave-quiet now i last t (sub_of i t)).none
perform-shown t (unmarking i) = refl
perform-shown t (releasing i now) = (release-quiet now i t).none
perform-shown t (sweeping now most) = (sweep-quiet now most t).none
perform-shown t clearing = refl
perform-shown t (adding i) = refl
perform-shown t (removing i now) = refl
perform-shown t (testing i q) = (by-if (λ (r : Answer). Quiet r.events) (eqb i.conn 0) _ _ (λ c. still refl) (λ c. test-quiet i q t _)).none
perform-shown t (forgetting conn) = refl
perform-shown t discarding = refl
perform-shown t missing = refl

pub call-shown : (t : Dest) (o : Option Call) → (call_step whole t o).refusal ≡ 0 → letters_in (call_step whole t o).events ≡ shown (rejected t o)
unfolding call_step call
call-shown t none h = absurd (none-refused whole t h)
call-shown t (some c) h = let z = call-accepted whole c t h in rw z (perform-shown t c)

pub letters-sent : LettersSent
letters-sent code ws t n h =
    let e = step_call whole code ws t n in
    ap (λ (r : Result). letters_in r.events) e ∙ call-shown t (decode code ws) (sym (ap (λ (r : Result). r.refusal) e) ∙ h)
