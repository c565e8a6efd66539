-- The calls without an allowance (before document 02 §4): each definition of crate `definition` that reads a clock to tell what has expired, or runs one that does, with the
-- call's own clock. No other definition names the allowance but to carry it. Assumes nothing.
use Rattle.std.specs.Prelude.{ℕ, ◌+◌, ◌-◌, not, ◌&&◌, ◌||◌, List, [], ◌∷◌, ◌++◌, map, leb, ltb, eqb, ℤ, pos, length}
use Rattle.std.proofs.Math.Option.{Option, none, some}
use Rattle.definition.specs.Base.{whether◌then◌else◌, keep, tally, empty, is_some}
use Rattle.definition.specs.Types.{Kind, queue, topic, Id, Entry, Sub, Dest, with_pull, with_generation, with_pending, with_subs, with_idle, with_reserved}
use Rattle.definition.specs.Consumer.{add_expired, is_browser, expired, redelivered, selects, Ack, ack_sub}
use Rattle.definition.specs.Destination.{Out, Answer, Spec, count, sub_of, put_sub, dispatch_queue, dispatch_topic, dispatch_by, touch_idle, stored, fanned_out, new_sub, prefetch_at, insert_all, hold_back_all, held_by, reserved_of, ack_reserved, resumed, returned_from, reserved_from, drop_sub, sweep_list, sweep_subs}
use Rattle.definition.specs.Calls.{Lengths, short, sound, Request, acknowledge, pulling, timed_out, prefetching, Call, enqueuing, joining, leaving, asking, unmarking, releasing, sweeping, clearing, adding, removing, testing, forgetting, discarding, missing, arguments_ok, free_rows, own_refusal, ask, perform, Result, refused, used}

-- ---- what expires

abbrev pub plain_dispatch : ℕ → Dest → Out
plain_dispatch now t = dispatch_by now t t.kind

unfoldable pub plain_enqueue_by : ℕ → Entry → Dest → Kind → Out
plain_enqueue_by now e t queue = dispatch_queue now (stored e t)
plain_enqueue_by now e t topic = dispatch_topic now (fanned_out now e t)

abbrev pub plain_joined : ℕ → Spec → Dest → Dest
plain_joined now p t =
    let live = keep (λ e. not (expired (pos now) e)) t.pending in
    let chosen = keep (λ e. selects e.match_word p.selector) live in
    let browsed = count (add_expired (tally (expired (pos now)) t.pending)) (with_pending live t) in
    with_idle none (whether p.browser then with_subs (t.subs ++ new_sub p (some chosen) ∷ []) browsed else with_subs (t.subs ++ new_sub p none ∷ []) t)

unfoldable pub plain_reinsert : ℕ → List Entry → Dest → Dest
plain_reinsert now es t =
    let live = keep (λ e. not (expired (pos now) e)) es in
    count (add_expired (tally (expired (pos now)) es)) (with_pending (insert_all live t.pending) (with_subs (map (hold_back_all live) t.subs) t))

unfoldable pub plain_sweep_expired : ℕ → ℕ → Dest → Answer
plain_sweep_expired now most t =
    let w = sweep_list most now t.pending in
    let r = sweep_subs (most - w.gone) now t.subs in
    let swept = count (add_expired (w.gone + r.gone)) (with_pending w.list (with_subs r.subs t)) in
    whether ltb 0 (w.gone + r.gone) then record { answer = w.gone + r.gone; dest = touch_idle now swept; events = [] }
    else record { answer = 0; dest = swept; events = [] }

abbrev pub plain_snapshot_rows : ℕ → Spec → Dest → ℕ
plain_snapshot_rows now p t = whether p.browser then tally (λ e. not (expired (pos now) e) && selects e.match_word p.selector) t.pending else 0

-- ---- what runs these

unfoldable pub plain_ack_at : ℕ → Id → Ack → Dest → Option Sub → Out
plain_ack_at now i a t none =
    let k = ack_reserved i a t a.last in
    let r = plain_dispatch now (touch_idle now k.dest) in
    whether a.transacted || empty (reserved_of i t) then record { dest = t; events = [] }
    else record { dest = r.dest; events = k.events ++ r.events }
plain_ack_at now i a t (some s) =
    let k = ack_sub a s in
    let r = plain_dispatch now (touch_idle now (count k.counts (put_sub i k.sub t))) in
    record { dest = r.dest; events = k.events ++ r.events }

unfoldable pub plain_pull_at : ℕ → Id → ℤ → Dest → Option Sub → Answer
plain_pull_at now i timeout t none = record { answer = 0; dest = t; events = [] }
plain_pull_at now i timeout t (some s) =
    let r = plain_dispatch now (put_sub i (with_pull (some (s.generation + 1)) (with_generation (s.generation + 1) s)) t) in
    whether ltb 0 s.prefetch then record { answer = 0; dest = t; events = [] } else resumed i timeout r (sub_of i r.dest)

unfoldable pub plain_returning : ℕ → Sub → ℤ → Dest → Kind → Dest
plain_returning now s last t topic = t
plain_returning now s last t queue =
    whether is_browser s then t
    else plain_reinsert now (returned_from last s.inflight) (with_reserved (t.reserved ++ reserved_from s.id s.inflight) t)

unfoldable pub plain_remove_at : ℕ → Id → ℤ → Dest → Option Sub → Answer
plain_remove_at now i last t none = record { answer = 0; dest = t; events = [] }
plain_remove_at now i last t (some s) =
    let r = plain_dispatch now (touch_idle now (plain_returning now s last (drop_sub i t) t.kind)) in
    record { answer = 1; dest = r.dest; events = r.events }

unfoldable pub plain_return_reserved : ℕ → Id → Dest → Out
plain_return_reserved now i t =
    let r = plain_dispatch now (plain_reinsert now (map redelivered (reserved_of i t)) (with_reserved (keep (λ h. not (held_by i h)) t.reserved) t)) in
    whether empty (reserved_of i t) then record { dest = t; events = [] } else r

-- ---- the calls

unfoldable pub plain_ask : Id → Dest → Request → Answer
plain_ask i t (acknowledge a now) = let r = plain_ack_at now i a t (sub_of i t) in record { answer = 0; dest = r.dest; events = r.events }
plain_ask i t (pulling timeout now) = plain_pull_at now i timeout t (sub_of i t)
plain_ask i t (timed_out generation) = ask i t (timed_out generation)
plain_ask i t (prefetching p now) = let r = plain_dispatch now (prefetch_at i p t (sub_of i t)) in record { answer = 0; dest = r.dest; events = r.events }

-- those that read no clock, or only mark the destination idle by it, are as they are
unfoldable pub plain_perform : Dest → Call → Answer
plain_perform t (enqueuing e now) = let r = plain_enqueue_by now e t t.kind in record { answer = 0; dest = r.dest; events = r.events }
plain_perform t (joining p now) = let r = plain_dispatch now (plain_joined now p t) in record { answer = 0; dest = r.dest; events = r.events }
plain_perform t (leaving i last now) = plain_remove_at now i last t (sub_of i t)
plain_perform t (asking i q) = plain_ask i t q
plain_perform t (unmarking i) = perform t (unmarking i)
plain_perform t (releasing i now) = let r = plain_return_reserved now i t in record { answer = 0; dest = r.dest; events = r.events }
plain_perform t (sweeping now most) = plain_sweep_expired now most t
plain_perform t clearing = perform t clearing
plain_perform t (adding i) = perform t (adding i)
plain_perform t (removing i now) = perform t (removing i now)
plain_perform t (testing i q) = perform t (testing i q)
plain_perform t (forgetting conn) = perform t (forgetting conn)
plain_perform t discarding = perform t discarding
plain_perform t missing = perform t missing

unfoldable pub plain_own_refusal : Dest → Call → ℕ
plain_own_refusal t (joining p now) =
    whether is_some (sub_of p.id t) then 6
    else whether leb 32 (length t.subs) then 7
    else whether ltb (free_rows t) (plain_snapshot_rows now p t) then 5
    else 0
plain_own_refusal t (enqueuing e now) = own_refusal t (enqueuing e now)
plain_own_refusal t (leaving i last now) = own_refusal t (leaving i last now)
plain_own_refusal t (asking i q) = own_refusal t (asking i q)
plain_own_refusal t (unmarking i) = own_refusal t (unmarking i)
plain_own_refusal t (releasing i now) = own_refusal t (releasing i now)
plain_own_refusal t (sweeping now most) = own_refusal t (sweeping now most)
plain_own_refusal t clearing = own_refusal t clearing
plain_own_refusal t (adding i) = own_refusal t (adding i)
plain_own_refusal t (removing i now) = own_refusal t (removing i now)
plain_own_refusal t (testing i q) = own_refusal t (testing i q)
plain_own_refusal t (forgetting conn) = own_refusal t (forgetting conn)
plain_own_refusal t discarding = own_refusal t discarding
plain_own_refusal t missing = own_refusal t missing

unfoldable pub plain_refusal : Lengths → Call → Dest → ℕ
plain_refusal lent c t =
    whether short lent then 1
    else whether not (sound t) then 2
    else whether not (arguments_ok c) then 3
    else whether eqb t.calls_used t.call_limit then 9
    else plain_own_refusal t c

unfoldable pub plain_call : Lengths → Call → Dest → Result
plain_call lent c t =
    let r = plain_perform t c in
    let done : Result = record { refusal = 0; answer = r.answer; events = r.events; dest = used r.dest } in
    whether eqb (plain_refusal lent c t) 0 then done else refused (plain_refusal lent c t) t
