-- What comes in flight was sent. Assumes nothing.
use Prim.Native.Nat.{ℕ, zero, suc, ◌+◌, ◌-◌}
use mathlib.Core.Path.{◌≡◌, refl, sym, ◌∙◌, ap}
use mathlib.Core.Bool.{Bool, true, false, true≢false, not, ◌&&◌, ◌||◌}
use mathlib.Core.List.{List, [], ◌∷◌, ◌++◌, map}
use mathlib.Core.Option.{Option, none, some}
use lib.Dec.{ltb, eqb}
use lib.IntN.{ℤ, pos}
use lib.Signed.{lt_z}
use lib.ListN.{length}
use borrow.Author.Tests.{eqb-true, not-true}
use Rattle.audit.specs.Audit.{seen}
use Rattle.definition.specs.Base.{whether◌then◌else◌, keep, find, nth, empty, all, member}
use Rattle.definition.specs.Types.{Kind, queue, topic, Id, Entry, Inflight, Sub, Audit, Dest, Event, null, with_prefetch, with_pull, with_generation, with_cursor, with_tpending, with_pending, with_subs, with_reserved}
use Rattle.definition.specs.Consumer.{same_id, zero_stats, add_expired, expired, selects, is_browser, has_credit, accepts, send, sent, send_null, snapshot, with_snapshot, redelivered, Ack, ack_sub, Step, at_rest, meet_topic, drain_topic, serve_topic, Browse, meet_browser, close_browser, drain_browser, dispatch_browser}
use Rattle.definition.specs.Destination.{Out, Answer, Spec, Look, look, given, Turn, visit_at, visit, scan, turns, rounds, browsers, dispatch_queue, serve_all, dispatch_topic, dispatch_by, dispatch, due, touch_idle, count, is_id, sub_of, put_sub, hold_back, hold_back_all, fan_out, fan_out_all, stored, fanned_out, enqueue_by, room, new_sub, joined, add_sub, prefetch_at, set_prefetch, reinsert, held_by, reserved_of, ack_reserved, ack_at, ack, pulled, resumed, pull_at, pull, fired, timeout_at, pull_timeout, returned_from, reserved_from, without, returning, drop_sub, remove_at, remove_sub, no_tx, return_reserved, sweep_list, sweep_subs, sweep_expired, cleared, clear, audit_of, test_at, is_duplicate}
use Rattle.definition.specs.Calls.{seqs, flying, sub_sound, sound, Request, acknowledge, pulling, timed_out, prefetching, Call, enqueuing, joining, leaving, asking, unmarking, releasing, sweeping, clearing, adding, removing, testing, forgetting, discarding, missing, ask, perform, Result, refusal, call}
use Rattle.definition.specs.Histories.{sends, flies, FliesFrom}
use Rattle.definition.proofs.Tests.{by-if, by-test, or-no-left, or-no-right, and_left}
use Rattle.definition.proofs.Lists.{All, all-put, all-find, all_set, all-nth, all_join, all_left, all_right}
use Rattle.definition.proofs.Thin.{thin-member}
use Rattle.definition.proofs.Local.{browsed}
use Rattle.definition.proofs.Own.{ack-id}
use Rattle.definition.proofs.Fit.{fit, ack-acked}
use Rattle.definition.proofs.Sound.{facts, find-all}
use Rattle.definition.proofs.Dispatch.{send-flying}
use Rattle.definition.proofs.Room.{touch-subs}
use Rattle.definition.proofs.Kept.{accepted}

module _ (i : Id) (q : ℕ) where
  -- q is not in flight at s, or s is another
  abbrev Off : Sub → Type 0
  Off s = (is_id i s && member q (seqs (flying s))) ≡ false

  abbrev Offs : Dest → Type 0
  Offs t = All Off t.subs

  -- none of these sends q to i
  abbrev Unsent : List Event → Type 0
  Unsent es = all (λ v. not (sends i q v)) es ≡ true

  all-off : (l : List Sub) → flies i q l ≡ false → All Off l
  all-off [] h = tt
  all-off (s ∷ l) h = (or-no-left (is_id i s && member q (seqs (flying s))) (flies i q l) h, all-off l (or-no-right (is_id i s && member q (seqs (flying s))) (flies i q l) h))

  off-all : (l : List Sub) → All Off l → flies i q l ≡ false
  off-all [] h = refl
  off-all (s ∷ l) h = rw h.0 (off-all l h.1)

  -- a consumer of the same ID with no other numbers
  off-like : (s v : Sub) → v.id ≡ s.id → (member q (seqs (flying s)) ≡ false → member q (seqs (flying v)) ≡ false) → Off s → Off v
  off-like s v e f h = by-test (is_id i v)
      (λ c. ap (λ b. b && member q (seqs (flying v))) c ∙ f (sym (ap (λ b. b && member q (seqs (flying s))) (sym (ap (λ x. same_id x i) e) ∙ c)) ∙ h))
      (λ c. ap (λ b. b && member q (seqs (flying v))) c)

  member-end : (l : List Entry) (e : Entry) → member q (seqs l) ≡ false → eqb q e.seq ≡ false → member q (seqs (l ++ e ∷ [])) ≡ false
  member-end [] e h g = rw g
  member-end (f ∷ l) e h g = rw (or-no-left (eqb q f.seq) (member q (seqs l)) h) (member-end l e (or-no-right (eqb q f.seq) (member q (seqs l)) h) g)

  send-off : (s : Sub) (e : Entry) → Off s → not (sends i q (sent s e)) ≡ true → Off (send e s)
  send-off s e h n = by-test (is_id i s)
      (λ c. rw c (ap (λ l. member q (seqs l)) (send-flying s e) ∙ member-end (flying s) e (sym (ap (λ b. b && member q (seqs (flying s))) c) ∙ h) (sym (ap (λ b. b && eqb q e.seq) c) ∙ not-true (same_id s.id i && eqb q e.seq) n)))
      (λ c. rw c)

  last-unsent : (es : List Event) (v : Event) → Unsent (es ++ v ∷ []) → not (sends i q v) ≡ true
  last-unsent es v h = and_left (not (sends i q v)) true (all_right (λ v. not (sends i q v)) es (v ∷ []) h)

  -- ---- a topic's consumer

  meet-more : (now : ℕ) (e : Entry) (es : List Entry) (t : Step) → Unsent (meet_topic now e es t).events → Unsent t.events
  unfolding meet_topic
  meet-more now e es t = by-if (λ (r : Step). Unsent r.events → Unsent t.events) (expired (pos now) e) _ _ (λ c h. h) (λ c h. all_left (λ v. not (sends i q v)) t.events (sent t.sub e ∷ []) h)

  meet-off : (now : ℕ) (e : Entry) (es : List Entry) (t : Step) → Off t.sub → Unsent (meet_topic now e es t).events → Off (meet_topic now e es t).sub
  unfolding meet_topic
  meet-off now e es t h = by-if (λ (r : Step). Unsent r.events → Off r.sub) (expired (pos now) e) _ _ (λ c n. h) (λ c n. send-off (with_tpending es t.sub) e h (last-unsent t.events (sent t.sub e) n))

  drain-more : (now : ℕ) (l : List Entry) (t : Step) → Unsent (drain_topic now l t).events → Unsent t.events
  unfolding drain_topic
  drain-more now [] t = λ h. h
  drain-more now (e ∷ es) t = by-if (λ (r : Step). Unsent r.events → Unsent t.events) (has_credit t.sub) _ t (λ c h. meet-more now e es t (drain-more now es (meet_topic now e es t) h)) (λ c h. h)

  drain-off : (now : ℕ) (l : List Entry) (t : Step) → Off t.sub → Unsent (drain_topic now l t).events → Off (drain_topic now l t).sub
  unfolding drain_topic
  drain-off now [] t h = λ n. h
  drain-off now (e ∷ es) t h = by-if (λ (r : Step). Unsent r.events → Off r.sub) (has_credit t.sub) _ t
      (λ c n. drain-off now es (meet_topic now e es t) (meet-off now e es t h (drain-more now es (meet_topic now e es t) n)) n) (λ c n. h)

  serve_all-off : (now : ℕ) (l : List Sub) → All Off l → Unsent (serve_all now l).events → All Off (serve_all now l).subs
  unfolding serve_all
  serve_all-off now [] h n = tt
  serve_all-off now (s ∷ l) h n =
      let es = (serve_topic now s).events in
      (drain-off now s.tpending (at_rest s) h.0 (all_left (λ v. not (sends i q v)) es (serve_all now l).events n), serve_all-off now l h.1 (all_right (λ v. not (sends i q v)) es (serve_all now l).events n))

  -- ---- a browser

  met-more : (now : ℕ) (e : Entry) (es : List Entry) (b : Browse) → Unsent (meet_browser now e es b).events → Unsent b.events
  unfolding meet_browser
  met-more now e es b = by-if (λ (r : Browse). Unsent r.events → Unsent b.events) (expired (pos now) e) _ _ (λ c h. h) (λ c h. all_left (λ v. not (sends i q v)) b.events (sent b.sub e ∷ []) h)

  met-off : (now : ℕ) (e : Entry) (es : List Entry) (b : Browse) → Off b.sub → Unsent (meet_browser now e es b).events → Off (meet_browser now e es b).sub
  unfolding meet_browser
  met-off now e es b h = by-if (λ (r : Browse). Unsent r.events → Off r.sub) (expired (pos now) e) _ _ (λ c n. h) (λ c n. send-off (with_snapshot es b.sub) e h (last-unsent b.events (sent b.sub e) n))

  close_more : (b : Browse) → Unsent (close_browser b).events → Unsent b.events
  unfolding close_browser
  close_more b = by-if (λ (r : Browse). Unsent r.events → Unsent b.events) b.sub.finished b _ (λ c h. h) (λ c h. all_left (λ v. not (sends i q v)) b.events (null b.sub.id ∷ []) h)

  close-off : (b : Browse) → Off b.sub → Off (close_browser b).sub
  unfolding close_browser
  close-off b h = by-if (λ (r : Browse). Off r.sub) b.sub.finished b _ (λ c. h) (λ c. h)

  browse-more : (now : ℕ) (l : List Entry) (b : Browse) → Unsent (drain_browser now l b).events → Unsent b.events
  unfolding drain_browser
  browse-more now [] b = by-if (λ (r : Browse). Unsent r.events → Unsent b.events) (has_credit b.sub) _ b (λ c h. close_more b h) (λ c h. h)
  browse-more now (e ∷ es) b = by-if (λ (r : Browse). Unsent r.events → Unsent b.events) (has_credit b.sub) _ b (λ c h. met-more now e es b (browse-more now es (meet_browser now e es b) h)) (λ c h. h)

  browse-off : (now : ℕ) (l : List Entry) (b : Browse) → Off b.sub → Unsent (drain_browser now l b).events → Off (drain_browser now l b).sub
  unfolding drain_browser
  browse-off now [] b h = by-if (λ (r : Browse). Unsent r.events → Off r.sub) (has_credit b.sub) _ b (λ c n. close-off b h) (λ c n. h)
  browse-off now (e ∷ es) b h = by-if (λ (r : Browse). Unsent r.events → Off r.sub) (has_credit b.sub) _ b
      (λ c n. browse-off now es (meet_browser now e es b) (met-off now e es b h (browse-more now es (meet_browser now e es b) n)) n) (λ c n. h)

  browsed-off : (now : ℕ) (p : List Entry) (s : Sub) → Off s → Unsent (browsed now p s).events → Off (browsed now p s).sub
  browsed-off now p s h = by-if (λ (r : Browse). Unsent r.events → Off r.sub) (is_browser s) (dispatch_browser now p s) _ (λ c n. browse-off now (snapshot s) (record { sub = s; pending = p; counts = zero_stats; events = [] }) h n) (λ c n. h)

  browsers-off : (now : ℕ) (l : List Sub) (p : List Entry) → All Off l → Unsent (browsers now l p).events → All Off (browsers now l p).subs
  unfolding browsers
  browsers-off now [] p h n = tt
  browsers-off now (s ∷ l) p h n =
      let b = browsed now p s in
      let r = browsers now l b.pending in
      (browsed-off now p s h.0 (all_left (λ v. not (sends i q v)) b.events r.events n), browsers-off now l b.pending h.1 (all_right (λ v. not (sends i q v)) b.events r.events n))

  -- ---- a queue's rounds

  given-off : (k : ℕ) (s : Sub) (l : Look) (t : Dest) (o : Option Entry) → Off s → Offs t → ((given k s l t o).took ≡ true → Unsent (given k s l t o).events) → Offs (given k s l t o).dest
  unfolding given
  given-off k s l t none g h n = all_set Off k t.subs (with_cursor l.cursor s) h g
  given-off k s l t (some e) g h n = all_set Off k t.subs (send e (with_cursor l.cursor s)) h (send-off (with_cursor l.cursor s) e g (last-unsent [] (sent s e) (n refl)))

  visit-off : (now k : ℕ) (t : Dest) (o : Option Sub) → nth k t.subs ≡ o → Offs t → ((visit_at now k t o).took ≡ true → Unsent (visit_at now k t o).events) → Offs (visit_at now k t o).dest
  unfolding visit_at
  visit-off now k t none f h = λ n. h
  visit-off now k t (some s) f h =
      let l = look now s s.cursor t.pending in
      by-if (λ (r : Turn). (r.took ≡ true → Unsent r.events) → Offs r.dest) (is_browser s || not (has_credit s)) (record { took = false; dest = t; events = [] }) (given k s l t l.chosen) (λ c n. h) (λ c n. given-off k s l t l.chosen (all-nth Off k t.subs s h f) h n)

  scan-off : (now : ℕ) (is : List ℕ) (t : Dest) → Offs t → Unsent (scan now is t).events → Offs (scan now is t).dest
  unfolding scan visit
  scan-off now [] t h = λ n. h
  scan-off now (k ∷ is) t h =
      let here = visit now k t in
      by-if (λ (r : Turn). Unsent r.events → Offs r.dest) here.took here (scan now is here.dest)
      (λ c n. visit-off now k t (nth k t.subs) refl h (λ d. n))
      (λ c n. scan-off now is here.dest (visit-off now k t (nth k t.subs) refl h (λ d. absurd (true≢false (sym d ∙ c)))) n)

  rounds-off : (fuel now : ℕ) (t : Dest) → Offs t → Unsent (rounds fuel now t).events → Offs (rounds fuel now t).dest
  unfolding rounds
  rounds-off zero now t h = λ n. h
  rounds-off (suc fuel) now t h =
      let here = scan now (turns t) t in
      let later = rounds fuel now here.dest in
      by-if (λ (r : Out). Unsent r.events → Offs r.dest) (not here.took || empty here.dest.pending) (record { dest = here.dest; events = here.events }) (record { dest = later.dest; events = here.events ++ later.events })
      (λ c n. scan-off now (turns t) t h n)
      (λ c n. rounds-off fuel now here.dest (scan-off now (turns t) t h (all_left (λ v. not (sends i q v)) here.events later.events n)) (all_right (λ v. not (sends i q v)) here.events later.events n))

  by-off : (now : ℕ) (t : Dest) (k : Kind) → Offs t → Unsent (dispatch_by now t k).events → Offs (dispatch_by now t k).dest
  unfolding dispatch_by dispatch_topic dispatch_queue
  by-off now t topic h = λ n. serve_all-off now t.subs h n
  by-off now t queue h =
      let b = browsers now t.subs t.pending in
      let u = count b.counts (with_pending b.pending (with_subs b.subs t)) in
      let r = rounds (suc (length b.pending)) now u in
      by-if (λ (o : Out). Unsent o.events → Offs o.dest) (empty t.subs) (record { dest = t; events = [] }) (record { dest = r.dest; events = b.events ++ r.events }) (λ c n. h)
      (λ c n. rounds-off (suc (length b.pending)) now u (browsers-off now t.subs t.pending h (all_left (λ v. not (sends i q v)) b.events r.events n)) (all_right (λ v. not (sends i q v)) b.events r.events n))

  dispatch-off : (now : ℕ) (t : Dest) → Offs t → Unsent (dispatch now t).events → Offs (dispatch now t).dest
  dispatch-off now t h n = by-off (due now t) t t.kind h n

  touch-off : (now : ℕ) (t : Dest) → Offs t → Offs (touch_idle now t)
  touch-off now t h = let e : t.subs ≡ (touch_idle now t).subs = sym (touch-subs now t) in go (touch_idle now t).subs e
    where
      go : (l : List Sub) → t.subs ≡ l → All Off l
      go l e = all-off l (sym (ap (flies i q) e) ∙ off-all t.subs h)

  -- ---- each call

  map-off : (f : Sub → Sub) (l : List Sub) → ((s : Sub) → Off s → Off (f s)) → All Off l → All Off (map f l)
  map-off f [] g h = tt
  map-off f (s ∷ l) g h = (g s h.0, map-off f l g h.1)

  fan-off : (now limit : ℕ) (e : Entry) (l : List Sub) → All Off l → All Off (fan_out_all now limit e l).subs
  unfolding fan_out_all fan_out
  fan-off now limit e [] h = tt
  fan-off now limit e (s ∷ l) h = (by-if (λ (r : Step). Off r.sub) (accepts s e) _ _ (λ c. h.0) (λ c. h.0), fan-off now limit e l h.1)

  enqueue-off : (now : ℕ) (e : Entry) (t : Dest) (k : Kind) → Offs t → Unsent (enqueue_by now e t k).events → Offs (enqueue_by now e t k).dest
  unfolding enqueue_by dispatch_by
  enqueue-off now e t queue h n = by-off (due now t) (stored e t) queue (map-off (hold_back e.seq) t.subs (λ s g. g) h) n
  enqueue-off now e t topic h n = by-off (due now t) (fanned_out (due now t) e t) topic (fan-off (due now t) t.topic_limit e t.subs h) n

  new-off : (p : Spec) (o : Option (List Entry)) → Off (new_sub p o)
  new-off p o = by-test (is_id i (new_sub p o)) (λ c. rw c) (λ c. rw c)

  joined-off : (now : ℕ) (p : Spec) (t : Dest) → Offs t → Offs (joined now p t)
  joined-off now p t h =
      let chosen = keep (λ e. selects e.match_word p.selector) (keep (λ e. not (expired (pos (due now t)) e)) t.pending) in
      by-if Offs p.browser _ _ (λ c. all_join Off t.subs (new_sub p (some chosen) ∷ []) h (new-off p (some chosen), tt)) (λ c. all_join Off t.subs (new_sub p none ∷ []) h (new-off p none, tt))

  back-off : (es : List Entry) (s : Sub) → Off s → Off (hold_back_all es s)
  back-off [] s h = h
  back-off (e ∷ es) s h = back-off es (hold_back e.seq s) h

  reinsert-off : (now : ℕ) (es : List Entry) (t : Dest) → Offs t → Offs (reinsert now es t)
  unfolding reinsert
  reinsert-off now es t h = let live = keep (λ e. not (expired (pos (due now t)) e)) es in map-off (hold_back_all live) t.subs (back-off live) h

  returning-off : (now : ℕ) (s : Sub) (last : ℤ) (t : Dest) (k : Kind) → Offs t → Offs (returning now s last t k)
  unfolding returning
  returning-off now s last t topic h = h
  returning-off now s last t queue h = by-if Offs (is_browser s) t _ (λ c. h) (λ c. reinsert-off now (returned_from last s.inflight) (with_reserved (t.reserved ++ reserved_from s.id s.inflight) t) h)

  without-off : (p : Sub → Bool) (l : List Sub) → All Off l → All Off (without p l)
  without-off p [] h = tt
  without-off p (s ∷ l) h = by-if (All Off) (p s) l (s ∷ without p l) (λ c. h.1) (λ c. (h.0, without-off p l h.1))

  remove-off : (now : ℕ) (j : Id) (last : ℤ) (t : Dest) (o : Option Sub) → Offs t → Unsent (remove_at now j last t o).events → Offs (remove_at now j last t o).dest
  unfolding remove_at
  remove-off now j last t none h n = h
  remove-off now j last t (some s) h n =
      let u = returning now s last (drop_sub j t) t.kind in
      dispatch-off now (touch_idle now u) (touch-off now u (returning-off now s last (drop_sub j t) t.kind (without-off (is_id j) t.subs h))) n

  release-off : (now : ℕ) (j : Id) (t : Dest) → Offs t → Unsent (return_reserved now j t).events → Offs (return_reserved now j t).dest
  unfolding return_reserved
  release-off now j t h =
      let u = with_reserved (keep (λ h. not (held_by j h)) t.reserved) t in
      let es = map redelivered (reserved_of j t) in
      by-if (λ (r : Out). Unsent r.events → Offs r.dest) (empty (reserved_of j t)) (record { dest = t; events = [] }) _ (λ c n. h) (λ c n. dispatch-off now (reinsert now es u) (reinsert-off now es u h) n)

  sweeps-off : (budget now : ℕ) (l : List Sub) → All Off l → All Off (sweep_subs budget now l).subs
  unfolding sweep_subs
  sweeps-off budget now [] h = tt
  sweeps-off budget now (s ∷ l) h = (h.0, sweeps-off (budget - (sweep_list budget now s.tpending).gone) now l h.1)

  sweep-off : (now most : ℕ) (t : Dest) → Offs t → Offs (sweep_expired now most t).dest
  unfolding sweep_expired
  sweep-off now most t h =
      let w = sweep_list most (due now t) t.pending in
      let r = sweep_subs (most - w.gone) (due now t) t.subs in
      let swept = count (add_expired (w.gone + r.gone)) (with_pending w.list (with_subs r.subs t)) in
      let v : Offs swept = sweeps-off (most - w.gone) (due now t) t.subs h in
      by-if (λ (a : Answer). Offs a.dest) (ltb 0 (w.gone + r.gone)) (record { answer = w.gone + r.gone; dest = touch_idle now swept; events = [] }) (record { answer = 0; dest = swept; events = [] }) (λ c. touch-off now swept v) (λ c. v)

  put-off : (j : Id) (v : Sub) (t : Dest) → Offs t → Off v → Offs (put_sub j v t)
  put-off j v t h g = all-put Off (is_id j) t.subs v h g

  found-off : (j : Id) (s : Sub) (t : Dest) → Offs t → sub_of j t ≡ some s → Off s
  found-off j s t h f = all-find Off (is_id j) t.subs s h f

  ack-off : (now : ℕ) (j : Id) (a : Ack) (t : Dest) (o : Option Sub) → sound t ≡ true → sub_of j t ≡ o → Offs t → Unsent (ack_at now j a t o).events → Offs (ack_at now j a t o).dest
  unfolding ack_at ack_reserved
  ack-off now j a t none s f h = by-if (λ (r : Out). Unsent r.events → Offs r.dest) (a.transacted || empty (reserved_of j t)) (record { dest = t; events = [] }) _ (λ c n. h)
      (λ c n. dispatch-off now (touch_idle now k.dest) (touch-off now k.dest (reserved a.last)) (all_right (λ v. not (sends i q v)) k.events (dispatch now (touch_idle now k.dest)).events n))
    where
      k : Out
      k = ack_reserved j a t a.last

      reserved : (o : Option ℕ) → Offs (ack_reserved j a t o).dest
      reserved none = h
      reserved (some last) = h
  ack-off now j a t (some s) z f h = λ n.
      let k = ack_sub a s in
      let u = count k.counts (put_sub j k.sub t) in
      let flight = (ack-acked t.kind a s (fit t.kind t.calls_used s (find-all (is_id j) (sub_sound t.kind t.calls_used) t.subs s f (facts t z).consumers)).0).flight in
      let v : Off k.sub = off-like s k.sub (ack-id a s) (thin-member q (flying s) (flying k.sub) flight) (found-off j s t h f) in
      dispatch-off now (touch_idle now u) (touch-off now u (put-off j k.sub t h v)) (all_right (λ v. not (sends i q v)) k.events (dispatch now (touch_idle now u)).events n)

  pulled-off : (j : Id) (timeout : ℤ) (s : Sub) (r : Out) (o : Option ℕ) → Off s → (Unsent r.events → Offs r.dest) → Unsent (pulled j timeout s r o).events → Offs (pulled j timeout s r o).dest
  unfolding pulled
  pulled-off j timeout s r none g h = h
  pulled-off j timeout s r (some x) g h = by-if (λ (a : Answer). Unsent a.events → Offs a.dest) (lt_z timeout (pos 0)) _ _
      (λ c n. put-off j (send_null s) r.dest (h (all_left (λ v. not (sends i q v)) r.events (null s.id ∷ []) n)) g)
      (λ c. by-if (λ (a : Answer). Unsent a.events → Offs a.dest) (lt_z (pos 0) timeout) _ _ (λ d. h) (λ d. h))

  pulled-more : (j : Id) (timeout : ℤ) (s : Sub) (r : Out) (o : Option ℕ) → Unsent (pulled j timeout s r o).events → Unsent r.events
  unfolding pulled
  pulled-more j timeout s r none = λ n. n
  pulled-more j timeout s r (some x) = by-if (λ (a : Answer). Unsent a.events → Unsent r.events) (lt_z timeout (pos 0)) _ _
      (λ c n. all_left (λ v. not (sends i q v)) r.events (null s.id ∷ []) n)
      (λ c. by-if (λ (a : Answer). Unsent a.events → Unsent r.events) (lt_z (pos 0) timeout) _ _ (λ d n. n) (λ d n. n))

  resumed-off : (j : Id) (timeout : ℤ) (r : Out) (o : Option Sub) → sub_of j r.dest ≡ o → (Unsent r.events → Offs r.dest) → Unsent (resumed j timeout r o).events → Offs (resumed j timeout r o).dest
  unfolding resumed
  resumed-off j timeout r none f h n = h n
  resumed-off j timeout r (some s) f h n = pulled-off j timeout s r s.pull (found-off j s r.dest (h (pulled-more j timeout s r s.pull n)) f) h n

  pull-off : (now : ℕ) (j : Id) (timeout : ℤ) (t : Dest) (o : Option Sub) → sub_of j t ≡ o → Offs t → Unsent (pull_at now j timeout t o).events → Offs (pull_at now j timeout t o).dest
  unfolding pull_at
  pull-off now j timeout t none f h = λ n. h
  pull-off now j timeout t (some s) f h =
      let v = with_pull (some (s.generation + 1)) (with_generation (s.generation + 1) s) in
      let u = put_sub j v t in
      let r = dispatch now u in
      by-if (λ (a : Answer). Unsent a.events → Offs a.dest) (ltb 0 s.prefetch) (record { answer = 0; dest = t; events = [] }) (resumed j timeout r (sub_of j r.dest)) (λ c n. h)
      (λ c n. resumed-off j timeout r (sub_of j r.dest) refl (dispatch-off now u (put-off j v t h (found-off j s t h f))) n)

  fired-off : (j : Id) (generation : ℕ) (s : Sub) (t : Dest) (o : Option ℕ) → Off s → Offs t → Offs (fired j generation s t o).dest
  unfolding fired
  fired-off j generation s t none g h = h
  fired-off j generation s t (some x) g h = by-if (λ (r : Out). Offs r.dest) (eqb x generation) _ _ (λ c. put-off j (send_null s) t h g) (λ c. h)

  timeout-off : (j : Id) (generation : ℕ) (t : Dest) (o : Option Sub) → sub_of j t ≡ o → Offs t → Offs (timeout_at j generation t o).dest
  unfolding timeout_at
  timeout-off j generation t none f h = h
  timeout-off j generation t (some s) f h = fired-off j generation s t s.pull (found-off j s t h f) h

  prefetch-off : (j : Id) (p : ℤ) (t : Dest) (o : Option Sub) → sub_of j t ≡ o → Offs t → Offs (prefetch_at j p t o)
  prefetch-off j p t none f h = h
  prefetch-off j p t (some s) f h = put-off j (with_prefetch (room p) s) t h (found-off j s t h f)

  ask-off : (j : Id) (t : Dest) (r : Request) → sound t ≡ true → Offs t → Unsent (ask j t r).events → Offs (ask j t r).dest
  unfolding ask ack pull pull_timeout set_prefetch
  ask-off j t (acknowledge a now) s h n = ack-off now j a t (sub_of j t) s refl h n
  ask-off j t (pulling timeout now) s h n = pull-off now j timeout t (sub_of j t) refl h n
  ask-off j t (timed_out generation) s h n = timeout-off j generation t (sub_of j t) refl h
  ask-off j t (prefetching p now) s h n = dispatch-off now (prefetch_at j p t (sub_of j t)) (prefetch-off j p t (sub_of j t) refl h) n

  unmarked-seqs : (l : List Inflight) → map (λ (x : Inflight). x.entry) (map (λ (x : Inflight). record { dseq = x.dseq; entry = x.entry; freed = x.freed; tx = false }) l) ≡ map (λ (x : Inflight). x.entry) l
  unmarked-seqs [] = refl
  unmarked-seqs (x ∷ l) = ap (λ m. x.entry ∷ m) (unmarked-seqs l)

  no_tx-off : (s : Sub) → Off s → Off (no_tx s)
  no_tx-off s h = off-like s (no_tx s) refl (λ g. ap (λ l. member q (seqs l)) (unmarked-seqs s.inflight) ∙ g) h

  cleared-off : (s : Sub) → Off s → Off (cleared s)
  cleared-off s h = off-like s (cleared s) refl (λ g. refl) h

  test-off : (j : Id) (k : ℕ) (t : Dest) (o : Option Audit) → Offs t → Offs (test_at j k t o).dest
  unfolding test_at
  test-off j k t none h = h
  test-off j k t (some a) h = by-if (λ (r : Answer). Offs r.dest) (seen k a.order) _ _ (λ c. h) (λ c. h)

  perform-off : (t : Dest) (c : Call) → sound t ≡ true → Offs t → Unsent (perform t c).events → Offs (perform t c).dest
  unfolding perform add_sub remove_sub clear is_duplicate
  perform-off t (enqueuing e now) s h n = enqueue-off now e t t.kind h n
  perform-off t (joining p now) s h n = dispatch-off now (joined now p t) (joined-off now p t h) n
  perform-off t (leaving j last now) s h n = remove-off now j last t (sub_of j t) h n
  perform-off t (asking j r) s h n = ask-off j t r s h n
  perform-off t (unmarking j) s h n = map-off (λ v. whether is_id j v then no_tx v else v) t.subs (λ v g. by-if Off (is_id j v) (no_tx v) v (λ c. no_tx-off v g) (λ c. g)) h
  perform-off t (releasing j now) s h n = release-off now j t h n
  perform-off t (sweeping now most) s h n = sweep-off now most t h
  perform-off t clearing s h n = map-off cleared t.subs cleared-off h
  perform-off t (adding j) s h n = h
  perform-off t (removing j now) s h n = touch-off now _ h
  perform-off t (testing j k) s h n = by-if (λ (r : Answer). Offs r.dest) (eqb j.conn 0) _ _ (λ c. h) (λ c. test-off j k t (find (audit_of j) t.audits) h)
  perform-off t (forgetting conn) s h n = h
  perform-off t discarding s h n = h
  perform-off t missing s h n = h

pub flies-from : FliesFrom
unfolding call
flies-from lent c t i q h = by-if (λ (r : Result). Unsent i q r.events → flies i q r.dest.subs ≡ false) (eqb (refusal lent c t) 0) _ _
    (λ e n. off-all i q (perform t c).dest.subs (perform-off i q t c (accepted lent c t (eqb-true (refusal lent c t) 0 e)).is-sound (all-off i q t.subs h) n))
    (λ e n. h)
