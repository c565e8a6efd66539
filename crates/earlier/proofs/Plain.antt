-- With allowance 0 each call is the one without an allowance. Assumes nothing.
use Prim.Native.Nat.{ℕ, ◌+◌, ◌-◌}
use mathlib.Core.Path.{◌≡◌, refl, ◌∙◌, ap, ap₂}
use mathlib.Core.Bool.{not, ◌||◌}
use mathlib.Core.List.{List, [], ◌++◌, map}
use mathlib.Core.Option.{Option, none, some}
use lib.Dec.{eqb, leb, ltb}
use lib.IntN.{ℤ}
use lib.ListN.{length}
use Rattle.definition.specs.Base.{whether◌then◌else◌, keep, empty, is_some}
use Rattle.definition.specs.Types.{Kind, queue, topic, Id, Entry, Sub, Dest, with_pull, with_generation, with_pending, with_subs, with_reserved}
use Rattle.definition.specs.Consumer.{add_expired, is_browser, redelivered, Ack, ack_sub}
use Rattle.definition.specs.Destination.{Out, Answer, Spec, count, sub_of, put_sub, dispatch_queue, dispatch_topic, dispatch_by, dispatch, touch_idle, stored, fanned_out, enqueue_by, joined, add_sub, prefetch_at, set_prefetch, reinsert, held_by, reserved_of, ack_reserved, ack_at, ack, resumed, pull_at, pull, returned_from, reserved_from, returning, drop_sub, remove_at, remove_sub, return_reserved, sweep_list, sweep_subs, sweep_expired}
use Rattle.definition.specs.Calls.{Lengths, short, sound, Request, acknowledge, pulling, timed_out, prefetching, Call, enqueuing, joining, leaving, asking, unmarking, releasing, sweeping, clearing, adding, removing, testing, forgetting, discarding, missing, arguments_ok, free_rows, snapshot_rows, own_refusal, ask, perform, refusal, Result, refused, used, call}
use Rattle.definition.proofs.Slow.{no-allowance}
use Rattle.earlier.specs.Plain.{plain_dispatch, plain_enqueue_by, plain_joined, plain_reinsert, plain_sweep_expired, plain_snapshot_rows, plain_ack_at, plain_pull_at, plain_returning, plain_remove_at, plain_return_reserved, plain_ask, plain_perform, plain_own_refusal, plain_refusal, plain_call}
use Rattle.earlier.specs.Claims.{AsWithout}
use Rattle.earlier.proofs.Stays.{touch-stays, joined-stays, prefetch-stays, reserved-stays, reinsert-stays, returning-stays}

-- ---- what expires

plain-dispatch : (now : ℕ) (t : Dest) → t.allowance ≡ 0 → dispatch now t ≡ plain_dispatch now t
plain-dispatch now t z = ap (λ n. dispatch_by n t t.kind) (no-allowance now t z)

plain-enqueue : (now : ℕ) (e : Entry) (t : Dest) (k : Kind) → t.allowance ≡ 0 → enqueue_by now e t k ≡ plain_enqueue_by now e t k
unfolding enqueue_by plain_enqueue_by
plain-enqueue now e t queue z = ap (λ n. dispatch_queue n (stored e t)) (no-allowance now t z)
plain-enqueue now e t topic z = ap (λ n. dispatch_topic n (fanned_out n e t)) (no-allowance now t z)

plain-joined : (now : ℕ) (p : Spec) (t : Dest) → t.allowance ≡ 0 → joined now p t ≡ plain_joined now p t
plain-joined now p t z = ap (λ n. plain_joined n p t) (no-allowance now t z)

plain-reinsert : (now : ℕ) (es : List Entry) (t : Dest) → t.allowance ≡ 0 → reinsert now es t ≡ plain_reinsert now es t
unfolding reinsert plain_reinsert
plain-reinsert now es t z = ap (λ n. plain_reinsert n es t) (no-allowance now t z)

abbrev sweep_by : ℕ → ℕ → ℕ → Dest → Answer
sweep_by n now most t =
    let w = sweep_list most n t.pending in
    let r = sweep_subs (most - w.gone) n t.subs in
    let swept = count (add_expired (w.gone + r.gone)) (with_pending w.list (with_subs r.subs t)) in
    whether ltb 0 (w.gone + r.gone) then record { answer = w.gone + r.gone; dest = touch_idle now swept; events = [] }
    else record { answer = 0; dest = swept; events = [] }

plain-sweep : (now most : ℕ) (t : Dest) → t.allowance ≡ 0 → sweep_expired now most t ≡ plain_sweep_expired now most t
unfolding sweep_expired plain_sweep_expired
plain-sweep now most t z = ap (λ n. sweep_by n now most t) (no-allowance now t z)

plain_rows : (now : ℕ) (p : Spec) (t : Dest) → t.allowance ≡ 0 → snapshot_rows now p t ≡ plain_snapshot_rows now p t
plain_rows now p t z = ap (λ n. plain_snapshot_rows n p t) (no-allowance now t z)

-- ---- what runs these

plain-ack : (now : ℕ) (i : Id) (a : Ack) (t : Dest) (o : Option Sub) → t.allowance ≡ 0 → ack_at now i a t o ≡ plain_ack_at now i a t o
unfolding ack_at plain_ack_at
plain-ack now i a t none z =
    let k = ack_reserved i a t a.last in
    ap (λ (r : Out). whether a.transacted || empty (reserved_of i t) then record { dest = t; events = [] } else record { dest = r.dest; events = k.events ++ r.events })
    (plain-dispatch now (touch_idle now k.dest) (touch-stays now k.dest ∙ reserved-stays i a t a.last ∙ z))
plain-ack now i a t (some s) z =
    let k = ack_sub a s in
    let u = count k.counts (put_sub i k.sub t) in
    ap (λ (r : Out). record { dest = r.dest; events = k.events ++ r.events }) (plain-dispatch now (touch_idle now u) (touch-stays now u ∙ z))

plain-pull : (now : ℕ) (i : Id) (timeout : ℤ) (t : Dest) (o : Option Sub) → t.allowance ≡ 0 → pull_at now i timeout t o ≡ plain_pull_at now i timeout t o
unfolding pull_at plain_pull_at
plain-pull now i timeout t none z = refl
plain-pull now i timeout t (some s) z =
    let u = put_sub i (with_pull (some (s.generation + 1)) (with_generation (s.generation + 1) s)) t in
    ap (λ (r : Out). whether ltb 0 s.prefetch then record { answer = 0; dest = t; events = [] } else resumed i timeout r (sub_of i r.dest)) (plain-dispatch now u z)

plain-returning : (now : ℕ) (s : Sub) (last : ℤ) (t : Dest) (k : Kind) → t.allowance ≡ 0 → returning now s last t k ≡ plain_returning now s last t k
unfolding returning plain_returning
plain-returning now s last t topic z = refl
plain-returning now s last t queue z =
    let u = with_reserved (t.reserved ++ reserved_from s.id s.inflight) t in
    ap (λ (r : Dest). whether is_browser s then t else r) (plain-reinsert now (returned_from last s.inflight) u z)

plain-remove : (now : ℕ) (i : Id) (last : ℤ) (t : Dest) (o : Option Sub) → t.allowance ≡ 0 → remove_at now i last t o ≡ plain_remove_at now i last t o
unfolding remove_at plain_remove_at
plain-remove now i last t none z = refl
plain-remove now i last t (some s) z =
    let u = returning now s last (drop_sub i t) t.kind in
    let of : Out → Answer = λ r. record { answer = 1; dest = r.dest; events = r.events } in
    ap of (plain-dispatch now (touch_idle now u) (touch-stays now u ∙ returning-stays now s last (drop_sub i t) t.kind ∙ z))
    ∙ ap (λ (v : Dest). of (plain_dispatch now (touch_idle now v))) (plain-returning now s last (drop_sub i t) t.kind z)

plain-release : (now : ℕ) (i : Id) (t : Dest) → t.allowance ≡ 0 → return_reserved now i t ≡ plain_return_reserved now i t
unfolding return_reserved plain_return_reserved
plain-release now i t z =
    let u = with_reserved (keep (λ h. not (held_by i h)) t.reserved) t in
    let es = map redelivered (reserved_of i t) in
    let of : Out → Out = λ r. whether empty (reserved_of i t) then record { dest = t; events = [] } else r in
    ap of (plain-dispatch now (reinsert now es u) (reinsert-stays now es u ∙ z)) ∙ ap (λ (v : Dest). of (plain_dispatch now v)) (plain-reinsert now es u z)

-- ---- the calls

abbrev quietly : Out → Answer
quietly r = record { answer = 0; dest = r.dest; events = r.events }

plain-ask : (i : Id) (t : Dest) (q : Request) → t.allowance ≡ 0 → ask i t q ≡ plain_ask i t q
unfolding ask plain_ask ack pull set_prefetch
plain-ask i t (acknowledge a now) z = ap quietly (plain-ack now i a t (sub_of i t) z)
plain-ask i t (pulling timeout now) z = plain-pull now i timeout t (sub_of i t) z
plain-ask i t (timed_out generation) z = refl
plain-ask i t (prefetching p now) z = ap quietly (plain-dispatch now (prefetch_at i p t (sub_of i t)) (prefetch-stays i p t (sub_of i t) ∙ z))

plain-perform : (t : Dest) (c : Call) → t.allowance ≡ 0 → perform t c ≡ plain_perform t c
unfolding perform plain_perform add_sub remove_sub
plain-perform t (enqueuing e now) z = ap quietly (plain-enqueue now e t t.kind z)
plain-perform t (joining p now) z = ap quietly (plain-dispatch now (joined now p t) (joined-stays now p t ∙ z) ∙ ap (plain_dispatch now) (plain-joined now p t z))
plain-perform t (leaving i last now) z = plain-remove now i last t (sub_of i t) z
plain-perform t (asking i q) z = plain-ask i t q z
plain-perform t (unmarking i) z = refl
plain-perform t (releasing i now) z = ap quietly (plain-release now i t z)
plain-perform t (sweeping now most) z = plain-sweep now most t z
plain-perform t clearing z = refl
plain-perform t (adding i) z = refl
plain-perform t (removing i now) z = refl
plain-perform t (testing i q) z = refl
plain-perform t (forgetting conn) z = refl
plain-perform t discarding z = refl
plain-perform t missing z = refl

plain-own : (t : Dest) (c : Call) → t.allowance ≡ 0 → own_refusal t c ≡ plain_own_refusal t c
unfolding own_refusal plain_own_refusal
plain-own t (joining p now) z =
    ap (λ (n : ℕ). whether is_some (sub_of p.id t) then 6 else whether leb 32 (length t.subs) then 7 else whether ltb (free_rows t) n then 5 else 0) (plain_rows now p t z)
plain-own t (enqueuing e now) z = refl
plain-own t (leaving i last now) z = refl
plain-own t (asking i q) z = refl
plain-own t (unmarking i) z = refl
plain-own t (releasing i now) z = refl
plain-own t (sweeping now most) z = refl
plain-own t clearing z = refl
plain-own t (adding i) z = refl
plain-own t (removing i now) z = refl
plain-own t (testing i q) z = refl
plain-own t (forgetting conn) z = refl
plain-own t discarding z = refl
plain-own t missing z = refl

plain-refusal : (lent : Lengths) (c : Call) (t : Dest) → t.allowance ≡ 0 → refusal lent c t ≡ plain_refusal lent c t
unfolding refusal plain_refusal
plain-refusal lent c t z =
    ap (λ (n : ℕ). whether short lent then 1 else whether not (sound t) then 2 else whether not (arguments_ok c) then 3 else whether eqb t.calls_used t.call_limit then 9 else n) (plain-own t c z)

pub as-without : AsWithout
unfolding call plain_call
as-without lent c t z =
    let of : ℕ → Answer → Result = λ n r. whether eqb n 0 then record { refusal = 0; answer = r.answer; events = r.events; dest = used r.dest } else refused n t in
    ap₂ of (plain-refusal lent c t z) (plain-perform t c z)
