-- What begins to wait on a queue. Assumes nothing.
use Prim.Native.Nat.{ℕ, zero, suc, ◌+◌, ◌-◌}
use mathlib.Core.Path.{◌≡◌, refl, ◌∙◌, ap}
use mathlib.Core.Bool.{Bool, false, not, ◌||◌}
use mathlib.Core.List.{List, [], ◌∷◌, ◌++◌, map}
use mathlib.Core.Option.{Option, none, some}
use lib.Dec.{leb, ltb, eqb}
use lib.IntN.{ℤ, pos}
use lib.Signed.{lt_z}
use lib.ListN.{length}
use Rattle.audit.specs.Audit.{seen}
use Rattle.definition.specs.Base.{keep, find, nth, empty, member}
use Rattle.definition.specs.Types.{Kind, queue, topic, Id, Entry, Inflight, Sub, Audit, Dest, with_pull, with_generation, with_pending, with_subs, with_reserved}
use Rattle.definition.specs.Consumer.{zero_stats, add_expired, expired, is_browser, has_credit, accepts, snapshot, redelivered, Ack, ack_sub, Browse, meet_browser, close_browser, drain_browser, dispatch_browser}
use Rattle.definition.specs.Destination.{Out, Answer, Spec, Look, look, given, Turn, visit_at, visit, scan, turns, rounds, browsers, dispatch_queue, dispatch_topic, dispatch_by, dispatch, due, touch_idle, count, sub_of, put_sub, insert, stored, fanned_out, enqueue_by, joined, add_sub, prefetch_at, set_prefetch, insert_all, reinsert, held_by, reserved_of, ack_reserved, ack_at, ack, pulled, resumed, pull_at, pull, fired, timeout_at, pull_timeout, was_delivered, returned_from, reserved_from, returning, drop_sub, remove_at, remove_sub, return_reserved, sweep_at, sweep_list, sweep_subs, soonest, sweep_expired, clear, audit_of, test_at, is_duplicate}
use Rattle.definition.specs.Calls.{seqs, flying, Request, acknowledge, pulling, timed_out, prefetching, Call, enqueuing, joining, leaving, asking, unmarking, releasing, sweeping, clearing, adding, removing, testing, forgetting, discarding, missing, ask, perform, Result, refusal, call}
use Rattle.definition.specs.Histories.{flying_at, can_wait, WaitsFrom}
use Rattle.definition.proofs.Tests.{by-if, or-no-left, or-no-right}
use Rattle.definition.proofs.Local.{browsed}
use Rattle.definition.proofs.Room.{touch-pending}

-- the number q is none of these
module _ (q : ℕ) where
  abbrev Off : List Entry → Type 0
  Off l = member q (seqs l) ≡ false

  abbrev OffDest : Dest → Type 0
  OffDest t = Off t.pending

  head-off : (e : Entry) (l : List Entry) → Off (e ∷ l) → eqb q e.seq ≡ false
  head-off e l h = or-no-left (eqb q e.seq) (member q (seqs l)) h

  tail-off : (e : Entry) (l : List Entry) → Off (e ∷ l) → Off l
  tail-off e l h = or-no-right (eqb q e.seq) (member q (seqs l)) h

  cons-off : (e : Entry) (l : List Entry) → eqb q e.seq ≡ false → Off l → Off (e ∷ l)
  cons-off e l h g = rw h g

  keep-off : (p : Entry → Bool) (l : List Entry) → Off l → Off (keep p l)
  keep-off p [] h = h
  keep-off p (e ∷ l) h = by-if Off (p e) (e ∷ keep p l) (keep p l) (λ c. cons-off e (keep p l) (head-off e l h) (keep-off p l (tail-off e l h))) (λ c. keep-off p l (tail-off e l h))

  insert-off : (e : Entry) (l : List Entry) → eqb q e.seq ≡ false → Off l → Off (insert e l)
  insert-off e [] h g = cons-off e [] h g
  insert-off e (f ∷ l) h g =
      by-if Off (ltb e.seq f.seq) (e ∷ f ∷ l) _ (λ c. cons-off e (f ∷ l) h g)
      (λ c. by-if Off (eqb e.seq f.seq) (e ∷ l) (f ∷ insert e l) (λ d. cons-off e l h (tail-off f l g)) (λ d. cons-off f (insert e l) (head-off f l g) (insert-off e l h (tail-off f l g))))

  insert_all-off : (es l : List Entry) → Off es → Off l → Off (insert_all es l)
  insert_all-off [] l h g = g
  insert_all-off (e ∷ es) l h g = insert_all-off es (insert e l) (tail-off e es h) (insert-off e l (head-off e es h) g)

  -- ---- a dispatch

  look-off : (now : ℕ) (s : Sub) (c : ℕ) (l : List Entry) → Off l → Off (look now s c l).pending
  unfolding look
  look-off now s c [] h = h
  look-off now s c (e ∷ l) h =
      by-if (λ (k : Look). Off k.pending) (leb e.seq s.cursor) _ _ (λ x. cons-off e (look now s c l).pending (head-off e l h) (look-off now s c l (tail-off e l h)))
      (λ x. by-if (λ (k : Look). Off k.pending) (expired (pos now) e) _ _ (λ y. look-off now s c l (tail-off e l h))
      (λ y. by-if (λ (k : Look). Off k.pending) (accepts s e) _ _ (λ z. tail-off e l h) (λ z. cons-off e (look now s e.seq l).pending (head-off e l h) (look-off now s e.seq l (tail-off e l h)))))

  given-off : (i : ℕ) (s : Sub) (l : Look) (t : Dest) (o : Option Entry) → Off l.pending → OffDest (given i s l t o).dest
  unfolding given
  given-off i s l t none h = h
  given-off i s l t (some e) h = h

  visit-off : (now i : ℕ) (t : Dest) (o : Option Sub) → OffDest t → OffDest (visit_at now i t o).dest
  unfolding visit_at
  visit-off now i t none h = h
  visit-off now i t (some s) h =
      let l = look now s s.cursor t.pending in
      by-if (λ (r : Turn). OffDest r.dest) (is_browser s || not (has_credit s)) (record { took = false; dest = t; events = [] }) (given i s l t l.chosen) (λ c. h) (λ c. given-off i s l t l.chosen (look-off now s s.cursor t.pending h))

  scan-off : (now : ℕ) (is : List ℕ) (t : Dest) → OffDest t → OffDest (scan now is t).dest
  unfolding scan visit
  scan-off now [] t h = h
  scan-off now (i ∷ is) t h =
      let here = visit now i t in
      let v : OffDest here.dest = visit-off now i t (nth i t.subs) h in
      by-if (λ (r : Turn). OffDest r.dest) here.took here (scan now is here.dest) (λ c. v) (λ c. scan-off now is here.dest v)

  rounds-off : (fuel now : ℕ) (t : Dest) → OffDest t → OffDest (rounds fuel now t).dest
  unfolding rounds
  rounds-off zero now t h = h
  rounds-off (suc fuel) now t h =
      let here = scan now (turns t) t in
      let later = rounds fuel now here.dest in
      let v : OffDest here.dest = scan-off now (turns t) t h in
      by-if (λ (r : Out). OffDest r.dest) (not here.took || empty here.dest.pending) (record { dest = here.dest; events = here.events }) (record { dest = later.dest; events = here.events ++ later.events }) (λ c. v) (λ c. rounds-off fuel now here.dest v)

  met-off : (now : ℕ) (e : Entry) (es : List Entry) (b : Browse) → Off b.pending → Off (meet_browser now e es b).pending
  unfolding meet_browser
  met-off now e es b h = by-if (λ (x : Browse). Off x.pending) (expired (pos now) e) _ _ (λ c. keep-off _ b.pending h) (λ c. h)

  drain-off : (now : ℕ) (l : List Entry) (b : Browse) → Off b.pending → Off (drain_browser now l b).pending
  unfolding drain_browser close_browser
  drain-off now [] b h = by-if (λ (x : Browse). Off x.pending) (has_credit b.sub) _ b (λ c. by-if (λ (x : Browse). Off x.pending) b.sub.finished b _ (λ d. h) (λ d. h)) (λ c. h)
  drain-off now (e ∷ es) b h = by-if (λ (x : Browse). Off x.pending) (has_credit b.sub) _ b (λ c. drain-off now es (meet_browser now e es b) (met-off now e es b h)) (λ c. h)

  browsers-off : (now : ℕ) (l : List Sub) (p : List Entry) → Off p → Off (browsers now l p).pending
  unfolding browsers
  browsers-off now [] p h = h
  browsers-off now (s ∷ l) p h = browsers-off now l (browsed now p s).pending
      (by-if (λ (x : Browse). Off x.pending) (is_browser s) (dispatch_browser now p s) _ (λ c. drain-off now (snapshot s) (record { sub = s; pending = p; counts = zero_stats; events = [] }) h) (λ c. h))

  by-off : (now : ℕ) (t : Dest) (k : Kind) → OffDest t → OffDest (dispatch_by now t k).dest
  unfolding dispatch_by dispatch_topic dispatch_queue
  by-off now t topic h = h
  by-off now t queue h =
      let b = browsers now t.subs t.pending in
      let u = count b.counts (with_pending b.pending (with_subs b.subs t)) in
      let r = rounds (suc (length b.pending)) now u in
      by-if (λ (o : Out). OffDest o.dest) (empty t.subs) (record { dest = t; events = [] }) (record { dest = r.dest; events = b.events ++ r.events }) (λ c. h) (λ c. rounds-off (suc (length b.pending)) now u (browsers-off now t.subs t.pending h))

  dispatch-off : (now : ℕ) (t : Dest) → OffDest t → OffDest (dispatch now t).dest
  dispatch-off now t h = by-off (due now t) t t.kind h

  touch-off : (now : ℕ) (t : Dest) → OffDest t → OffDest (touch_idle now t)
  touch-off now t h = ap (λ l. member q (seqs l)) (touch-pending now t) ∙ h

  -- ---- each call

  enqueue-off : (now : ℕ) (e : Entry) (t : Dest) (k : Kind) → eqb q e.seq ≡ false → OffDest t → OffDest (enqueue_by now e t k).dest
  unfolding enqueue_by dispatch_by
  enqueue-off now e t queue n h = by-off (due now t) (stored e t) queue (insert-off e t.pending n h)
  enqueue-off now e t topic n h = by-off (due now t) (fanned_out (due now t) e t) topic h

  joined-off : (now : ℕ) (p : Spec) (t : Dest) → OffDest t → OffDest (joined now p t)
  joined-off now p t h = by-if OffDest p.browser _ _ (λ c. keep-off (λ e. not (expired (pos (due now t)) e)) t.pending h) (λ c. h)

  reinsert-off : (now : ℕ) (es : List Entry) (t : Dest) → Off es → OffDest t → OffDest (reinsert now es t)
  unfolding reinsert
  reinsert-off now es t g h = let live = keep (λ e. not (expired (pos (due now t)) e)) es in insert_all-off live t.pending (keep-off (λ e. not (expired (pos (due now t)) e)) es g) h

  returned-off : (last : ℤ) (l : List Inflight) → Off (map (λ i. i.entry) l) → Off (returned_from last l)
  returned-off last [] h = h
  returned-off last (i ∷ l) h =
      let rest = returned-off last l (tail-off i.entry (map (λ i. i.entry) l) h) in
      by-if Off i.tx (returned_from last l) _ (λ c. rest)
      (λ c. by-if (λ (e : Entry). Off (e ∷ returned_from last l)) (was_delivered last i.entry) (redelivered i.entry) i.entry
      (λ d. cons-off (redelivered i.entry) (returned_from last l) (head-off i.entry (map (λ i. i.entry) l) h) rest)
      (λ d. cons-off i.entry (returned_from last l) (head-off i.entry (map (λ i. i.entry) l) h) rest))

  returning-off : (now : ℕ) (s : Sub) (last : ℤ) (t : Dest) (k : Kind) → Off (flying s) → OffDest t → OffDest (returning now s last t k)
  unfolding returning
  returning-off now s last t topic g h = h
  returning-off now s last t queue g h = by-if OffDest (is_browser s) t _ (λ c. h) (λ c. reinsert-off now (returned_from last s.inflight) (with_reserved (t.reserved ++ reserved_from s.id s.inflight) t) (returned-off last s.inflight g) h)

  remove-off : (now : ℕ) (i : Id) (last : ℤ) (t : Dest) (o : Option Sub) → member q (flying_at o) ≡ false → OffDest t → OffDest (remove_at now i last t o).dest
  unfolding remove_at
  remove-off now i last t none g h = h
  remove-off now i last t (some s) g h =
      let u = returning now s last (drop_sub i t) t.kind in
      dispatch-off now (touch_idle now u) (touch-off now u (returning-off now s last (drop_sub i t) t.kind g h))

  again-off : (l : List Entry) → Off l → Off (map redelivered l)
  again-off [] h = h
  again-off (e ∷ l) h = cons-off (redelivered e) (map redelivered l) (head-off e l h) (again-off l (tail-off e l h))

  release-off : (now : ℕ) (i : Id) (t : Dest) → Off (reserved_of i t) → OffDest t → OffDest (return_reserved now i t).dest
  unfolding return_reserved
  release-off now i t g h =
      let u = with_reserved (keep (λ h. not (held_by i h)) t.reserved) t in
      let es = map redelivered (reserved_of i t) in
      by-if (λ (r : Out). OffDest r.dest) (empty (reserved_of i t)) (record { dest = t; events = [] }) _ (λ c. h) (λ c. dispatch-off now (reinsert now es u) (reinsert-off now es u (again-off (reserved_of i t) g) h))

  sweep_list-off : (budget now : ℕ) (l : List Entry) → Off l → Off (sweep_list budget now l).list
  unfolding sweep_list sweep_at
  sweep_list-off zero now l h = h
  sweep_list-off (suc budget) now l h = go (λ e. sweep_list-off budget now (keep (λ f. not (eqb f.seq e.seq)) l) (keep-off (λ f. not (eqb f.seq e.seq)) l h)) (soonest now l)
    where
      go : ((e : Entry) → Off (sweep_list budget now (keep (λ f. not (eqb f.seq e.seq)) l)).list) → (o : Option Entry) → Off (sweep_at l (λ e. sweep_list budget now (keep (λ f. not (eqb f.seq e.seq)) l)) o).list
      go later none = h
      go later (some e) = later e

  sweep-off : (now most : ℕ) (t : Dest) → OffDest t → OffDest (sweep_expired now most t).dest
  unfolding sweep_expired
  sweep-off now most t h =
      let w = sweep_list most (due now t) t.pending in
      let r = sweep_subs (most - w.gone) (due now t) t.subs in
      let swept = count (add_expired (w.gone + r.gone)) (with_pending w.list (with_subs r.subs t)) in
      let v : OffDest swept = sweep_list-off most (due now t) t.pending h in
      by-if (λ (a : Answer). OffDest a.dest) (ltb 0 (w.gone + r.gone)) (record { answer = w.gone + r.gone; dest = touch_idle now swept; events = [] }) (record { answer = 0; dest = swept; events = [] }) (λ c. touch-off now swept v) (λ c. v)

  ack-off : (now : ℕ) (i : Id) (a : Ack) (t : Dest) (o : Option Sub) → OffDest t → OffDest (ack_at now i a t o).dest
  unfolding ack_at ack_reserved
  ack-off now i a t none h = by-if (λ (r : Out). OffDest r.dest) (a.transacted || empty (reserved_of i t)) (record { dest = t; events = [] }) _ (λ c. h)
      (λ c. dispatch-off now (touch_idle now (ack_reserved i a t a.last).dest) (touch-off now (ack_reserved i a t a.last).dest (reserved a.last)))
    where
      reserved : (o : Option ℕ) → OffDest (ack_reserved i a t o).dest
      reserved none = h
      reserved (some last) = h
  ack-off now i a t (some s) h =
      let k = ack_sub a s in
      let u = count k.counts (put_sub i k.sub t) in
      dispatch-off now (touch_idle now u) (touch-off now u h)

  pulled-off : (i : Id) (timeout : ℤ) (s : Sub) (r : Out) (o : Option ℕ) → OffDest r.dest → OffDest (pulled i timeout s r o).dest
  unfolding pulled
  pulled-off i timeout s r none h = h
  pulled-off i timeout s r (some g) h = by-if (λ (a : Answer). OffDest a.dest) (lt_z timeout (pos 0)) _ _ (λ c. h) (λ c. by-if (λ (a : Answer). OffDest a.dest) (lt_z (pos 0) timeout) _ _ (λ d. h) (λ d. h))

  resumed-off : (i : Id) (timeout : ℤ) (r : Out) (o : Option Sub) → OffDest r.dest → OffDest (resumed i timeout r o).dest
  unfolding resumed
  resumed-off i timeout r none h = h
  resumed-off i timeout r (some s) h = pulled-off i timeout s r s.pull h

  pull-off : (now : ℕ) (i : Id) (timeout : ℤ) (t : Dest) (o : Option Sub) → OffDest t → OffDest (pull_at now i timeout t o).dest
  unfolding pull_at
  pull-off now i timeout t none h = h
  pull-off now i timeout t (some s) h =
      let u = put_sub i (with_pull (some (s.generation + 1)) (with_generation (s.generation + 1) s)) t in
      let r = dispatch now u in
      by-if (λ (a : Answer). OffDest a.dest) (ltb 0 s.prefetch) (record { answer = 0; dest = t; events = [] }) (resumed i timeout r (sub_of i r.dest)) (λ c. h) (λ c. resumed-off i timeout r (sub_of i r.dest) (dispatch-off now u h))

  fired-off : (i : Id) (generation : ℕ) (s : Sub) (t : Dest) (o : Option ℕ) → OffDest t → OffDest (fired i generation s t o).dest
  unfolding fired
  fired-off i generation s t none h = h
  fired-off i generation s t (some g) h = by-if (λ (r : Out). OffDest r.dest) (eqb g generation) _ _ (λ c. h) (λ c. h)

  timeout-off : (i : Id) (generation : ℕ) (t : Dest) (o : Option Sub) → OffDest t → OffDest (timeout_at i generation t o).dest
  unfolding timeout_at
  timeout-off i generation t none h = h
  timeout-off i generation t (some s) h = fired-off i generation s t s.pull h

  prefetch-off : (i : Id) (p : ℤ) (t : Dest) (o : Option Sub) → OffDest t → OffDest (prefetch_at i p t o)
  prefetch-off i p t none h = h
  prefetch-off i p t (some s) h = h

  ask-off : (i : Id) (t : Dest) (r : Request) → OffDest t → OffDest (ask i t r).dest
  unfolding ask ack pull pull_timeout set_prefetch
  ask-off i t (acknowledge a now) h = ack-off now i a t (sub_of i t) h
  ask-off i t (pulling timeout now) h = pull-off now i timeout t (sub_of i t) h
  ask-off i t (timed_out generation) h = timeout-off i generation t (sub_of i t) h
  ask-off i t (prefetching p now) h = dispatch-off now (prefetch_at i p t (sub_of i t)) (prefetch-off i p t (sub_of i t) h)

  test-off : (i : Id) (n : ℕ) (t : Dest) (o : Option Audit) → OffDest t → OffDest (test_at i n t o).dest
  unfolding test_at
  test-off i n t none h = h
  test-off i n t (some a) h = by-if (λ (r : Answer). OffDest r.dest) (seen n a.order) _ _ (λ c. h) (λ c. h)

  perform-off : (t : Dest) (c : Call) → OffDest t → member q (can_wait t c) ≡ false → OffDest (perform t c).dest
  unfolding perform add_sub remove_sub clear is_duplicate
  perform-off t (enqueuing e now) h g = enqueue-off now e t t.kind (or-no-left (eqb q e.seq) false g) h
  perform-off t (joining p now) h g = dispatch-off now (joined now p t) (joined-off now p t h)
  perform-off t (leaving i last now) h g = remove-off now i last t (sub_of i t) g h
  perform-off t (asking i r) h g = ask-off i t r h
  perform-off t (unmarking i) h g = h
  perform-off t (releasing i now) h g = release-off now i t g h
  perform-off t (sweeping now most) h g = sweep-off now most t h
  perform-off t clearing h g = refl
  perform-off t (adding i) h g = h
  perform-off t (removing i now) h g = touch-off now _ h
  perform-off t (testing i n) h g = by-if (λ (r : Answer). OffDest r.dest) (eqb i.conn 0) _ _ (λ c. h) (λ c. test-off i n t (find (audit_of i) t.audits) h)
  perform-off t (forgetting conn) h g = h
  perform-off t discarding h g = h
  perform-off t missing h g = h

pub waits-from : WaitsFrom
unfolding call
waits-from lent c t q h g = by-if (λ (r : Result). OffDest q r.dest) (eqb (refusal lent c t) 0) _ _ (λ e. perform-off q t c h g) (λ e. h)
