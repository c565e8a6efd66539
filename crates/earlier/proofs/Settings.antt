-- No call but open changes the kind, the limits, the allowance or the share. Assumes nothing.
use Prim.Native.Nat.{ℕ, zero, suc, ◌+◌, ◌-◌}
use native.Mathlib.Omega.{arith}
use mathlib.Core.Path.{◌≡◌, refl, ◌∙◌, ap}
use mathlib.Core.Bool.{Bool, true, false, not, ◌&&◌, ◌||◌}
use mathlib.Core.List.{List, [], ◌∷◌, ◌++◌, map}
use mathlib.Core.Option.{Option, none, some}
use lib.Dec.{eqb, ltb}
use lib.IntN.{ℤ, pos}
use lib.Signed.{lt_z}
use lib.ListN.{length}
use Rattle.audit.specs.Audit.{seen}
use Rattle.definition.specs.Base.{whether◌then◌else◌, keep, empty, nth, find}
use Rattle.definition.specs.Types.{Kind, queue, topic, Id, Entry, Sub, Audit, Dest, with_pending, with_subs, with_reserved}
use Rattle.definition.specs.Consumer.{add_expired, is_browser, has_credit, redelivered, Ack, ack_sub}
use Rattle.definition.specs.Destination.{Out, Answer, Spec, Look, look, given, Turn, visit_at, visit, scan, turns, rounds, browsers, dispatch_queue, dispatch_topic, dispatch_by, dispatch, due, touch_idle, count, sub_of, put_sub, stored, enqueue_by, add_sub, joined, prefetch_at, set_prefetch, reinsert, held_by, reserved_of, ack_reserved, ack_at, ack, pulled, resumed, pull_at, pull, fired, timeout_at, pull_timeout, returned_from, reserved_from, returning, drop_sub, remove_at, remove_sub, return_reserved, sweep_list, sweep_subs, sweep_expired, clear, audit_of, test_at, is_duplicate}
use Rattle.definition.specs.Calls.{Lengths, short, Request, acknowledge, pulling, timed_out, prefetching, Call, enqueuing, joining, leaving, asking, unmarking, releasing, sweeping, clearing, adding, removing, testing, forgetting, discarding, missing, ask, perform, Result, refusal, call}
use Rattle.definition.specs.Words.{open_words, decode, open_step, call_step, step}
use Rattle.definition.specs.Layout.{view, formed, lengths_of, buffer_step}
use Rattle.definition.proofs.Tests.{by-test}
use Rattle.definition.proofs.Made.{step_call}
use Rattle.earlier.specs.Claims.{Settings, settings, SettingsStay, StepSettingsStay, BufferSettingsStay, OpenSettings}

-- where both sides have it, the choice has it
pub either : {A B : Type 0} (f : A → B) (b : Bool) (x y : A) (n : B) → f x ≡ n → f y ≡ n → f (whether b then x else y) ≡ n
either f true x y n p q = p
either f false x y n p q = q

abbrev of_dest : Dest → Settings
of_dest t = settings t

abbrev of_out : Out → Settings
of_out r = settings r.dest

abbrev of_turn : Turn → Settings
of_turn r = settings r.dest

abbrev of_answer : Answer → Settings
of_answer r = settings r.dest

-- ---- the dispatch

given-stay : (i : ℕ) (s : Sub) (l : Look) (t : Dest) (o : Option Entry) → settings (given i s l t o).dest ≡ settings t
unfolding given
given-stay i s l t none = refl
given-stay i s l t (some e) = refl

visit-stay : (now i : ℕ) (t : Dest) (o : Option Sub) → settings (visit_at now i t o).dest ≡ settings t
unfolding visit_at
visit-stay now i t none = refl
visit-stay now i t (some s) =
    let l = look now s s.cursor t.pending in
    either of_turn (is_browser s || not (has_credit s)) (record { took = false; dest = t; events = [] }) (given i s l t l.chosen) (settings t) refl (given-stay i s l t l.chosen)

scan-stay : (now : ℕ) (is : List ℕ) (t : Dest) → settings (scan now is t).dest ≡ settings t
unfolding scan visit
scan-stay now [] t = refl
scan-stay now (i ∷ is) t =
    let here = visit now i t in
    let v : settings here.dest ≡ settings t = visit-stay now i t (nth i t.subs) in
    either of_turn here.took here (scan now is here.dest) (settings t) v (scan-stay now is here.dest ∙ v)

rounds-stay : (fuel now : ℕ) (t : Dest) → settings (rounds fuel now t).dest ≡ settings t
unfolding rounds
rounds-stay zero now t = refl
rounds-stay (suc fuel) now t =
    let here = scan now (turns t) t in
    let later = rounds fuel now here.dest in
    let v : settings here.dest ≡ settings t = scan-stay now (turns t) t in
    either of_out (not here.took || empty here.dest.pending) (record { dest = here.dest; events = here.events }) (record { dest = later.dest; events = here.events ++ later.events }) (settings t) v (rounds-stay fuel now here.dest ∙ v)

queue-stay : (now : ℕ) (t : Dest) → settings (dispatch_queue now t).dest ≡ settings t
unfolding dispatch_queue
queue-stay now t =
    let b = browsers now t.subs t.pending in
    let u = count b.counts (with_pending b.pending (with_subs b.subs t)) in
    let r = rounds (suc (length b.pending)) now u in
    either of_out (empty t.subs) (record { dest = t; events = [] }) (record { dest = r.dest; events = b.events ++ r.events }) (settings t) refl (rounds-stay (suc (length b.pending)) now u)

by-stay : (now : ℕ) (t : Dest) (k : Kind) → settings (dispatch_by now t k).dest ≡ settings t
unfolding dispatch_by dispatch_topic
by-stay now t queue = queue-stay now t
by-stay now t topic = refl

dispatch-stay : (now : ℕ) (t : Dest) → settings (dispatch now t).dest ≡ settings t
dispatch-stay now t = by-stay (due now t) t t.kind

-- ---- what goes before it

pub touch-stay : (now : ℕ) (t : Dest) → settings (touch_idle now t) ≡ settings t
unfolding touch_idle
touch-stay now t = either of_dest (empty t.pending && (empty t.subs && empty t.producers)) _ _ (settings t) refl refl

pub joined-stay : (now : ℕ) (p : Spec) (t : Dest) → settings (joined now p t) ≡ settings t
joined-stay now p t = either of_dest p.browser _ _ (settings t) refl refl

pub prefetch-stay : (i : Id) (p : ℤ) (t : Dest) (o : Option Sub) → settings (prefetch_at i p t o) ≡ settings t
prefetch-stay i p t none = refl
prefetch-stay i p t (some s) = refl

pub reserved-stay : (i : Id) (a : Ack) (t : Dest) (o : Option ℕ) → settings (ack_reserved i a t o).dest ≡ settings t
unfolding ack_reserved
reserved-stay i a t none = refl
reserved-stay i a t (some last) = refl

pub reinsert-stay : (now : ℕ) (es : List Entry) (t : Dest) → settings (reinsert now es t) ≡ settings t
unfolding reinsert
reinsert-stay now es t = refl

pub returning-stay : (now : ℕ) (s : Sub) (last : ℤ) (t : Dest) (k : Kind) → settings (returning now s last t k) ≡ settings t
unfolding returning
returning-stay now s last t topic = refl
returning-stay now s last t queue = either of_dest (is_browser s) t _ (settings t) refl (reinsert-stay now (returned_from last s.inflight) (with_reserved (t.reserved ++ reserved_from s.id s.inflight) t))

-- ---- each call

enqueue-stay : (now : ℕ) (e : Entry) (t : Dest) (k : Kind) → settings (enqueue_by now e t k).dest ≡ settings t
unfolding enqueue_by dispatch_topic
enqueue-stay now e t queue = queue-stay (due now t) (stored e t)
enqueue-stay now e t topic = refl

ack-stay : (now : ℕ) (i : Id) (a : Ack) (t : Dest) (o : Option Sub) → settings (ack_at now i a t o).dest ≡ settings t
unfolding ack_at
ack-stay now i a t none =
    let k = ack_reserved i a t a.last in
    let r = dispatch now (touch_idle now k.dest) in
    either of_out (a.transacted || empty (reserved_of i t)) (record { dest = t; events = [] }) (record { dest = r.dest; events = k.events ++ r.events }) (settings t) refl
    (dispatch-stay now (touch_idle now k.dest) ∙ touch-stay now k.dest ∙ reserved-stay i a t a.last)
ack-stay now i a t (some s) =
    let k = ack_sub a s in
    let u = count k.counts (put_sub i k.sub t) in
    dispatch-stay now (touch_idle now u) ∙ touch-stay now u

pulled-stay : (i : Id) (timeout : ℤ) (s : Sub) (r : Out) (o : Option ℕ) → settings (pulled i timeout s r o).dest ≡ settings r.dest
unfolding pulled
pulled-stay i timeout s r none = refl
pulled-stay i timeout s r (some g) = either of_answer (lt_z timeout (pos 0)) _ _ (settings r.dest) refl (either of_answer (lt_z (pos 0) timeout) _ _ (settings r.dest) refl refl)

resumed-stay : (i : Id) (timeout : ℤ) (r : Out) (o : Option Sub) → settings (resumed i timeout r o).dest ≡ settings r.dest
unfolding resumed
resumed-stay i timeout r none = refl
resumed-stay i timeout r (some s) = pulled-stay i timeout s r s.pull

pull-stay : (now : ℕ) (i : Id) (timeout : ℤ) (t : Dest) (o : Option Sub) → settings (pull_at now i timeout t o).dest ≡ settings t
unfolding pull_at
pull-stay now i timeout t none = refl
pull-stay now i timeout t (some s) = either of_answer (ltb 0 s.prefetch) _ _ (settings t) refl (resumed-stay i timeout _ _ ∙ dispatch-stay now _)

fired-stay : (i : Id) (generation : ℕ) (s : Sub) (t : Dest) (o : Option ℕ) → settings (fired i generation s t o).dest ≡ settings t
unfolding fired
fired-stay i generation s t none = refl
fired-stay i generation s t (some g) = either of_out (eqb g generation) _ _ (settings t) refl refl

timeout-stay : (i : Id) (generation : ℕ) (t : Dest) (o : Option Sub) → settings (timeout_at i generation t o).dest ≡ settings t
unfolding timeout_at
timeout-stay i generation t none = refl
timeout-stay i generation t (some s) = fired-stay i generation s t s.pull

remove-stay : (now : ℕ) (i : Id) (last : ℤ) (t : Dest) (o : Option Sub) → settings (remove_at now i last t o).dest ≡ settings t
unfolding remove_at
remove-stay now i last t none = refl
remove-stay now i last t (some s) =
    let u = returning now s last (drop_sub i t) t.kind in
    dispatch-stay now (touch_idle now u) ∙ touch-stay now u ∙ returning-stay now s last (drop_sub i t) t.kind

release-stay : (now : ℕ) (i : Id) (t : Dest) → settings (return_reserved now i t).dest ≡ settings t
unfolding return_reserved
release-stay now i t =
    let u = with_reserved (keep (λ h. not (held_by i h)) t.reserved) t in
    either of_out (empty (reserved_of i t)) (record { dest = t; events = [] }) _ (settings t) refl
    (dispatch-stay now (reinsert now (map redelivered (reserved_of i t)) u) ∙ reinsert-stay now (map redelivered (reserved_of i t)) u)

sweep-stay : (now most : ℕ) (t : Dest) → settings (sweep_expired now most t).dest ≡ settings t
unfolding sweep_expired
sweep-stay now most t =
    let w = sweep_list most (due now t) t.pending in
    let r = sweep_subs (most - w.gone) (due now t) t.subs in
    let swept = count (add_expired (w.gone + r.gone)) (with_pending w.list (with_subs r.subs t)) in
    either of_answer (ltb 0 (w.gone + r.gone)) (record { answer = w.gone + r.gone; dest = touch_idle now swept; events = [] }) (record { answer = 0; dest = swept; events = [] }) (settings t)
    (touch-stay now swept) refl

test-stay : (i : Id) (q : ℕ) (t : Dest) (o : Option Audit) → settings (test_at i q t o).dest ≡ settings t
unfolding test_at
test-stay i q t none = refl
test-stay i q t (some a) = either of_answer (seen q a.order) _ _ (settings t) refl refl

ask-stay : (i : Id) (t : Dest) (q : Request) → settings (ask i t q).dest ≡ settings t
unfolding ask ack pull pull_timeout set_prefetch
ask-stay i t (acknowledge a now) = ack-stay now i a t (sub_of i t)
ask-stay i t (pulling timeout now) = pull-stay now i timeout t (sub_of i t)
ask-stay i t (timed_out generation) = timeout-stay i generation t (sub_of i t)
ask-stay i t (prefetching p now) = dispatch-stay now (prefetch_at i p t (sub_of i t)) ∙ prefetch-stay i p t (sub_of i t)

perform-stay : (t : Dest) (c : Call) → settings (perform t c).dest ≡ settings t
unfolding perform add_sub remove_sub clear is_duplicate
perform-stay t (enqueuing e now) = enqueue-stay now e t t.kind
perform-stay t (joining p now) = dispatch-stay now (joined now p t) ∙ joined-stay now p t
perform-stay t (leaving i last now) = remove-stay now i last t (sub_of i t)
perform-stay t (asking i q) = ask-stay i t q
perform-stay t (unmarking i) = refl
perform-stay t (releasing i now) = release-stay now i t
perform-stay t (sweeping now most) = sweep-stay now most t
perform-stay t clearing = refl
perform-stay t (adding i) = refl
perform-stay t (removing i now) = touch-stay now _
perform-stay t (testing i q) = either of_answer (eqb i.conn 0) _ _ (settings t) refl (test-stay i q t (find (audit_of i) t.audits))
perform-stay t (forgetting conn) = refl
perform-stay t discarding = refl
perform-stay t missing = refl

pub settings-stay : SettingsStay
unfolding call
settings-stay lent c t = either (λ (r : Result). settings r.dest) (eqb (refusal lent c t) 0) _ _ (settings t) (perform-stay t c) refl

-- ---- of the call file, and on buffers

coded-stay : (lent : Lengths) (t : Dest) (o : Option Call) → settings (call_step lent t o).dest ≡ settings t
unfolding call_step
coded-stay lent t none = refl
coded-stay lent t (some c) = settings-stay lent c t

pub step-settings-stay : StepSettingsStay
step-settings-stay lent code words t low = ap (λ (r : Result). settings r.dest) (step_call lent code words t low) ∙ coded-stay lent t (decode code words)

pub buffer-settings-stay : BufferSettingsStay
unfolding buffer_step
buffer-settings-stay b events code words low = either (λ (r : Result). settings r.dest) (not (short (lengths_of b events)) && (not (eqb code 0) && not (formed b))) _ _ (settings (view b)) refl (step-settings-stay (lengths_of b events) code words (view b) low)

pub open-settings : OpenSettings
unfolding step open_step
open-settings lent words t = by-test (short lent)
    (λ e. rw e (λ h. absurd (omega arith)))
    (λ e. by-test (open_words words) (λ f. rw (e, f) (λ h. refl)) (λ f. rw (e, f) (λ h. absurd (omega arith))))
