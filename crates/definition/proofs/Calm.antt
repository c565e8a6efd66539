-- What accepted calls keep: consumers with credit have nothing left to be sent from lists of their own, and the idle mark is absent
-- where there is a consumer. Assumes nothing.
use Prim.Native.Nat.{ℕ, zero, suc, ◌+◌, ◌-◌}
use mathlib.Core.Path.{◌≡◌, refl, sym, ◌∙◌, ap, subst}
use mathlib.Core.Bool.{Bool, true, false, not, ◌&&◌, ◌||◌, true≢false}
use mathlib.Core.List.{List, [], ◌∷◌, map}
use mathlib.Core.Option.{Option, none, some}
use lib.Dec.{ltb, eqb}
use lib.ListN.{length, set, length-map}
use lib.IntN.{ℤ, pos}
use lib.Signed.{lt_z}
use Rattle.definition.specs.Base.{whether◌then◌else◌, keep, find, put, nth, empty}
use Rattle.definition.specs.Types.{Kind, queue, topic, Id, Entry, Inflight, Sub, Audit, Dest, with_prefetch, with_cursor, with_tpending, with_pending, with_subs, with_reserved}
use Rattle.definition.specs.Consumer.{expired, add_expired, is_browser, snapshot, has_credit, send, send_null, redelivered, ack_sub, at_rest, dispatch_browser}
use Rattle.definition.specs.Destination.{ack_at, pull_at, remove_at, sweep_at, test_at, timeout_at, visit_at, Out, Look, look, given, visit, scan, turns, rounds, Browsed, browsers, dispatch_queue, serve_all, dispatch_topic, dispatch_by, dispatch, touch_idle, count, is_id, sub_of, put_sub, room, set_prefetch, ack, pulled, pull, pull_timeout, fired, resumed, fan_out_all, stored, fanned_out, enqueue_by, Spec, add_sub, hold_back_all, reinsert, held_by, reserved_of, ack_reserved, returning, drop_sub, remove_sub, no_tx, unmarked, return_reserved, Swept, sweep_list, SweptSubs, sweep_subs, sweep_expired, cleared, clear, audit_of, is_duplicate, due}
use Rattle.audit.specs.Audit.{seen}
use Rattle.definition.proofs.Tests.{or-no-left, by-if, by-test}
use Rattle.definition.proofs.Lists.{All, all-put, all-find}
use Rattle.definition.specs.Calls.{Lengths, Request, acknowledge, pulling, timed_out, prefetching, ask, Call, enqueuing, joining, leaving, asking, unmarking, releasing, sweeping, clearing, adding, removing, testing, forgetting, discarding, missing, perform, refusal, call}
use Rattle.definition.proofs.Local.{Rests, RestsTopic, RestsQueue, drained-rests, browsed-rests, alone}
use Rattle.definition.specs.Orders.{Reached}
use Rattle.definition.proofs.Made.{is_clear, Made, opens, calls, made}
use Rattle.definition.proofs.Own.{null-rests, pulling-sub}

-- what every call keeps: each consumer rests, and the idle mark is absent where there is one
-- (After a clear, a queue's browsers may have credit again: then only the second.)
pub record Calm (cleared : Bool) (t : Dest) : Type 0 where
  pub subs : (t.kind ≡ queue → cleared ≡ false) → All (Rests t.kind) t.subs
  pub idle : empty t.subs ≡ false → t.idle ≡ none

-- ---- what a dispatch keeps

-- the kind, the idle mark and whether there is a consumer
record Same (t u : Dest) : Type 0 where
  kind : u.kind ≡ t.kind
  idle : u.idle ≡ t.idle
  subs : empty u.subs ≡ empty t.subs

same_refl : (t : Dest) → Same t t
same_refl t = record { kind = refl; idle = refl; subs = refl }

same-trans : {t u v : Dest} → Same t u → Same u v → Same t v
same-trans p q = record { kind = q.kind ∙ p.kind; idle = q.idle ∙ p.idle; subs = q.subs ∙ p.subs }

serve_all-rests : (now : ℕ) (l : List Sub) → All RestsTopic (serve_all now l).subs
unfolding serve_all
serve_all-rests now [] = tt
serve_all-rests now (s ∷ l) = (drained-rests now s.tpending (at_rest s) refl, serve_all-rests now l)

serve_all-empty : (now : ℕ) (l : List Sub) → empty (serve_all now l).subs ≡ empty l
unfolding serve_all
serve_all-empty now [] = refl
serve_all-empty now (s ∷ l) = refl

browsers-rests : (now : ℕ) (l : List Sub) (p : List Entry) → All RestsQueue (browsers now l p).subs
unfolding browsers
browsers-rests now [] p = tt
browsers-rests now (s ∷ l) p = by-test (is_browser s)
    (λ b. rw b (browsed-rests now (snapshot s) (alone p s) refl, browsers-rests now l (dispatch_browser now p s).pending))
    (λ b. rw b ((λ u v. absurd (true≢false (sym u ∙ b))), browsers-rests now l p))

browsers-empty : (now : ℕ) (l : List Sub) (p : List Entry) → empty (browsers now l p).subs ≡ empty l
unfolding browsers
browsers-empty now [] p = refl
browsers-empty now (s ∷ l) p = refl

set-rests : (l : List Sub) (i : ℕ) (v : Sub) → All RestsQueue l → RestsQueue v → All RestsQueue (set l i v)
set-rests [] i v h q = tt
set-rests (s ∷ l) zero v h q = (q, h.1)
set-rests (s ∷ l) (suc i) v h q = (h.0, set-rests l i v h.1 q)

set-empty : (l : List Sub) (i : ℕ) (v : Sub) → empty (set l i v) ≡ empty l
set-empty [] i v = refl
set-empty (s ∷ l) zero v = refl
set-empty (s ∷ l) (suc i) v = refl

-- a step of the scan, and of the rounds
record Kept (t u : Dest) : Type 0 where
  rests : All RestsQueue t.subs → All RestsQueue u.subs
  same : Same t u

kept_refl : (t : Dest) → Kept t t
kept_refl t = record { rests = λ h. h; same = same_refl t }

kept_trans : {t u v : Dest} → Kept t u → Kept u v → Kept t v
kept_trans p q = record { rests = λ h. q.rests (p.rests h); same = same-trans p.same q.same }

no-browser : (s v : Sub) → is_browser s ≡ false → is_browser v ≡ is_browser s → RestsQueue v
no-browser s v b e = λ u w. absurd (true≢false (sym u ∙ e ∙ b))

given-kept : (i : ℕ) (s : Sub) (l : Look) (t : Dest) (o : Option Entry) → is_browser s ≡ false → Kept t (given i s l t o).dest
unfolding given is_browser
given-kept i s l t none b = record {
  rests = λ h. set-rests t.subs i (with_cursor l.cursor s) h (no-browser s (with_cursor l.cursor s) b refl);
  same = record { kind = refl; idle = refl; subs = set-empty t.subs i (with_cursor l.cursor s) };
}
given-kept i s l t (some e) b = record {
  rests = λ h. set-rests t.subs i (send e (with_cursor l.cursor s)) h (no-browser s (send e (with_cursor l.cursor s)) b refl);
  same = record { kind = refl; idle = refl; subs = set-empty t.subs i (send e (with_cursor l.cursor s)) };
}

visit-kept : (now i : ℕ) (t : Dest) → Kept t (visit now i t).dest
unfolding visit visit_at
visit-kept now i t = go (nth i t.subs) refl
  where
    go : (o : Option Sub) → nth i t.subs ≡ o → Kept t (visit now i t).dest
    go none e = rw e (kept_refl t)
    go (some s) e = rw e (by-test (is_browser s || not (has_credit s)) (λ c. rw c (kept_refl t))
        (λ c. rw c (given-kept i s (look now s s.cursor t.pending) t (look now s s.cursor t.pending).chosen (or-no-left (is_browser s) (not (has_credit s)) c))))

scan-kept : (now : ℕ) (is : List ℕ) (t : Dest) → Kept t (scan now is t).dest
unfolding scan
scan-kept now [] t = kept_refl t
scan-kept now (i ∷ is) t = by-test (visit now i t).took
    (λ c. rw c (visit-kept now i t))
    (λ c. rw c (kept_trans (visit-kept now i t) (scan-kept now is (visit now i t).dest)))

rounds-kept : (fuel now : ℕ) (t : Dest) → Kept t (rounds fuel now t).dest
unfolding rounds
rounds-kept zero now t = kept_refl t
rounds-kept (suc fuel) now t = by-test (not (scan now (turns t) t).took || empty (scan now (turns t) t).dest.pending)
    (λ c. rw c (scan-kept now (turns t) t))
    (λ c. rw c (kept_trans (scan-kept now (turns t) t) (rounds-kept fuel now (scan now (turns t) t).dest)))

-- after a dispatch every consumer rests
record Dispatched (k : Kind) (t u : Dest) : Type 0 where
  rests : All (Rests k) u.subs
  same : Same t u

empty-rests : (l : List Sub) → empty l ≡ true → All RestsQueue l
empty-rests [] e = tt
empty-rests (s ∷ l) e = absurd (true≢false (sym e))

queue-dispatched : (now : ℕ) (t : Dest) → Dispatched queue t (dispatch_queue now t).dest
unfolding dispatch_queue
queue-dispatched now t = by-test (empty t.subs)
    (λ c. rw c (record { rests = empty-rests t.subs c; same = same_refl t }))
    (λ c. rw c (record { rests = ends.rests (browsers-rests now t.subs t.pending); same = same-trans start ends.same }))
  where
    b : Browsed
    b = browsers now t.subs t.pending

    browsed : Dest
    browsed = count b.counts (with_pending b.pending (with_subs b.subs t))

    start : Same t browsed
    start = record { kind = refl; idle = refl; subs = browsers-empty now t.subs t.pending }

    ends : Kept browsed (rounds (suc (length b.pending)) now browsed).dest
    ends = rounds-kept (suc (length b.pending)) now browsed

dispatched : (k : Kind) (now : ℕ) (t : Dest) → Dispatched k t (dispatch_by now t k).dest
unfolding dispatch_by dispatch_topic
dispatched topic now t = record { rests = serve_all-rests now t.subs; same = record { kind = refl; idle = refl; subs = serve_all-empty now t.subs } }
dispatched queue now t = queue-dispatched now t

abbrev IdleRight : Dest → Type 0
IdleRight t = empty t.subs ≡ false → t.idle ≡ none

module _ (b : Bool) where
  calm-after : (k : Kind) (now : ℕ) (t : Dest) → t.kind ≡ k → IdleRight t → Calm b (dispatch_by now t k).dest
  calm-after k now t e h =
      let r = dispatched k now t in
      record {
        subs = λ l. subst (λ (j : Kind). All (Rests j) (dispatch_by now t k).dest.subs) (sym (r.same.kind ∙ e)) r.rests;
        idle = λ q. r.same.idle ∙ h (sym r.same.subs ∙ q);
      }

  -- ---- each call

  fan_out_all-empty : (now limit : ℕ) (e : Entry) (l : List Sub) → empty (fan_out_all now limit e l).subs ≡ empty l
  unfolding fan_out_all
  fan_out_all-empty now limit e [] = refl
  fan_out_all-empty now limit e (s ∷ l) = refl

  enqueue-calm : (k : Kind) (now : ℕ) (e : Entry) (t : Dest) → t.kind ≡ k → Calm b t → Calm b (enqueue_by now e t k).dest
  unfolding enqueue_by dispatch_by
  enqueue-calm topic now e t q h = calm-after topic _ (fanned_out (due now t) e t) q (λ c. h.idle (sym (fan_out_all-empty (due now t) t.topic_limit e t.subs) ∙ c))
  enqueue-calm queue now e t q h = calm-after queue _ (stored e t) q (λ c. refl)

  join-calm : (now : ℕ) (p : Spec) (t : Dest) → Calm b (add_sub now p t).dest
  unfolding add_sub
  join-calm now p t = calm-after _ _ _ refl (λ q. refl)

  put-empty : (p : Sub → Bool) (v : Sub) (l : List Sub) → empty (put p v l) ≡ empty l
  put-empty p v [] = refl
  put-empty p v (s ∷ l) = by-test (p s) (λ c. rw c) (λ c. rw c)

  touch-idle : (now : ℕ) (t : Dest) → IdleRight (touch_idle now t)
  unfolding touch_idle
  touch-idle now t = by-test (empty t.pending && (empty t.subs && empty t.producers))
      (λ c. rw c (λ q. absurd (true≢false (sym (middle (empty t.pending) (empty t.subs) (empty t.producers) c) ∙ q))))
      (λ c. rw c (λ q. refl))
    where
      middle : (x y z : Bool) → (x && (y && z)) ≡ true → y ≡ true
      middle true true z e = refl
      middle true false z e = e
      middle false y z e = absurd (true≢false (sym e))

  -- a consumer that rests is put in, and nothing else changes
  put-calm : (i : Id) (v : Sub) (t : Dest) → Calm b t → ((t.kind ≡ queue → b ≡ false) → Rests t.kind v) → Calm b (put_sub i v t)
  put-calm i v t h r = record { subs = λ l. all-put (Rests t.kind) (is_id i) t.subs v (h.subs l) (r l); idle = λ q. h.idle (sym (put-empty (is_id i) v t.subs) ∙ q) }

  put-after : (now : ℕ) (i : Id) (v : Sub) (t : Dest) → Calm b t → Calm b (dispatch now (put_sub i v t)).dest
  put-after now i v t h = calm-after t.kind _ (put_sub i v t) refl (λ q. h.idle (sym (put-empty (is_id i) v t.subs) ∙ q))

  fired-calm : (i : Id) (generation : ℕ) (s : Sub) (t : Dest) (o : Option ℕ) → Calm b t → ((t.kind ≡ queue → b ≡ false) → Rests t.kind s) → Calm b (fired i generation s t o).dest
  unfolding fired
  fired-calm i generation s t none h r = h
  fired-calm i generation s t (some g) h r = by-test (eqb g generation) (λ c. rw c (put-calm i (send_null s) t h (λ l. null-rests t.kind s (r l)))) (λ c. rw c h)

  pulled-calm : (i : Id) (timeout : ℤ) (s : Sub) (r : Out) (o : Option ℕ) → Calm b r.dest → ((r.dest.kind ≡ queue → b ≡ false) → Rests r.dest.kind s) → Calm b (pulled i timeout s r o).dest
  unfolding pulled
  pulled-calm i timeout s r none h q = h
  pulled-calm i timeout s r (some g) h q = by-test (lt_z timeout (pos 0))
      (λ c. rw c (put-calm i (send_null s) r.dest h (λ l. null-rests r.dest.kind s (q l))))
      (λ c. rw c (by-test (lt_z (pos 0) timeout) (λ e. rw e h) (λ e. rw e h)))

  resumed-calm : (i : Id) (timeout : ℤ) (r : Out) (o : Option Sub) → sub_of i r.dest ≡ o → Calm b r.dest → Calm b (resumed i timeout r o).dest
  unfolding resumed
  resumed-calm i timeout r none e h = h
  resumed-calm i timeout r (some s) e h = pulled-calm i timeout s r s.pull h (λ l. all-find (Rests r.dest.kind) (is_id i) r.dest.subs s (h.subs l) e)

  pub ask-calm : (i : Id) (q : Request) (t : Dest) → Calm b t → Calm b (ask i t q).dest
  unfolding ask ack ack_at pull pull_at pull_timeout timeout_at set_prefetch
  ask-calm i (acknowledge a now) t h = go (sub_of i t) refl
    where
      go : (o : Option Sub) → sub_of i t ≡ o → Calm b (ask i t (acknowledge a now)).dest
      go none e = rw e (by-if (λ (r : Out). Calm b r.dest) (a.transacted || empty (reserved_of i t)) _ _ (λ c. h)
          (λ c. calm-after _ _ (touch_idle now (ack_reserved i a t a.last).dest) refl (touch-idle now (ack_reserved i a t a.last).dest)))
      go (some s) e = rw e (calm-after _ _ (touch_idle now (count (ack_sub a s).counts (put_sub i (ack_sub a s).sub t))) refl (touch-idle now (count (ack_sub a s).counts (put_sub i (ack_sub a s).sub t))))
  ask-calm i (pulling timeout now) t h = go (sub_of i t) refl
    where
      go : (o : Option Sub) → sub_of i t ≡ o → Calm b (ask i t (pulling timeout now)).dest
      go none e = rw e h
      go (some s) e = rw e (by-test (ltb 0 s.prefetch) (λ c. rw c h)
          (λ c. rw c (resumed-calm i timeout (dispatch now (put_sub i (pulling-sub s) t)) (sub_of i (dispatch now (put_sub i (pulling-sub s) t)).dest) refl (put-after now i (pulling-sub s) t h))))
  ask-calm i (timed_out generation) t h = go (sub_of i t) refl
    where
      go : (o : Option Sub) → sub_of i t ≡ o → Calm b (ask i t (timed_out generation)).dest
      go none e = rw e h
      go (some s) e = rw e (fired-calm i generation s t s.pull h (λ l. all-find (Rests t.kind) (is_id i) t.subs s (h.subs l) e))
  ask-calm i (prefetching p now) t h = go (sub_of i t) refl
    where
      go : (o : Option Sub) → sub_of i t ≡ o → Calm b (ask i t (prefetching p now)).dest
      go none e = rw e (calm-after _ _ t refl h.idle)
      go (some s) e = rw e (put-after now i (with_prefetch (room p) s) t h)

  -- leaving
  leave-calm : (now : ℕ) (i : Id) (last : ℤ) (t : Dest) → Calm b t → Calm b (remove_sub now i last t).dest
  unfolding remove_sub remove_at
  leave-calm now i last t h = go (sub_of i t) refl
    where
      go : (o : Option Sub) → sub_of i t ≡ o → Calm b (remove_sub now i last t).dest
      go none e = rw e h
      go (some s) e = rw e (calm-after _ _ (touch_idle now (returning now s last (drop_sub i t) t.kind)) refl (touch-idle now (returning now s last (drop_sub i t) t.kind)))

  -- consumers changed one by one
  map-calm : (f : Sub → Sub) (t : Dest) → ((s : Sub) → Rests t.kind s → Rests t.kind (f s)) → Calm b t → Calm b (with_subs (map f t.subs) t)
  map-calm f t m h = record { subs = λ l. each t.subs (h.subs l); idle = λ q. h.idle (sym (same-empty t.subs) ∙ q) }
    where
      each : (l : List Sub) → All (Rests t.kind) l → All (Rests t.kind) (map f l)
      each [] r = tt
      each (s ∷ l) r = (m s r.0, each l r.1)

      same-empty : (l : List Sub) → empty (map f l) ≡ empty l
      same-empty [] = refl
      same-empty (s ∷ l) = refl

  -- release
  no_tx-credit : (s : Sub) → has_credit (no_tx s) ≡ has_credit s
  unfolding has_credit
  no_tx-credit s = rw (length-map {B = Inflight} s.inflight (λ i. record { dseq = i.dseq; entry = i.entry; freed = i.freed; tx = false }))

  no_tx-rests : (k : Kind) (s : Sub) → Rests k s → Rests k (no_tx s)
  unfolding is_browser
  no_tx-rests topic s r = λ c. r (sym (no_tx-credit s) ∙ c)
  no_tx-rests queue s r = λ u c. r u (sym (no_tx-credit s) ∙ c)

  unmark-calm : (i : Id) (t : Dest) → Calm b t → Calm b (unmarked i t)
  unmark-calm i t h = map-calm (λ s. whether is_id i s then no_tx s else s) t
      (λ s r. by-if (λ (v : Sub). Rests t.kind v) (is_id i s) (no_tx s) s (λ c. no_tx-rests t.kind s r) (λ c. r)) h

  reinsert-idle : (now : ℕ) (l : List Entry) (t : Dest) → IdleRight t → IdleRight (reinsert now l t)
  unfolding reinsert
  reinsert-idle now l t h = λ q. h (sym (same-empty t.subs) ∙ q)
    where
      same-empty : (m : List Sub) → empty (map (hold_back_all (keep (λ e. not (expired (pos (due now t)) e)) l)) m) ≡ empty m
      same-empty [] = refl
      same-empty (s ∷ m) = refl

  release-calm : (now : ℕ) (i : Id) (t : Dest) → Calm b t → Calm b (return_reserved now i t).dest
  unfolding return_reserved
  release-calm now i t h = by-test (empty (reserved_of i t))
      (λ c. rw c h)
      (λ c. rw c (calm-after _ _ (reinsert now (map redelivered (reserved_of i t)) (with_reserved (keep (λ h. not (held_by i h)) t.reserved) t)) refl
      (reinsert-idle now (map redelivered (reserved_of i t)) (with_reserved (keep (λ h. not (held_by i h)) t.reserved) t) h.idle)))

  -- sweep
  swept-nil : (budget now : ℕ) → (sweep_list budget now []).list ≡ []
  unfolding sweep_list sweep_at
  swept-nil zero now = refl
  swept-nil (suc budget) now = refl

  swept-rests : (k : Kind) (budget now : ℕ) (s : Sub) → Rests k s → Rests k (with_tpending (sweep_list budget now s.tpending).list s)
  unfolding has_credit is_browser
  swept-rests topic budget now s r = λ c. ap (λ (l : List Entry). (sweep_list budget now l).list) (r c) ∙ swept-nil budget now
  swept-rests queue budget now s r = r

  sweep_subs-rests : (k : Kind) (budget now : ℕ) (l : List Sub) → All (Rests k) l → All (Rests k) (sweep_subs budget now l).subs
  unfolding sweep_subs
  sweep_subs-rests k budget now [] h = tt
  sweep_subs-rests k budget now (s ∷ l) h = (swept-rests k budget now s h.0, sweep_subs-rests k (budget - (sweep_list budget now s.tpending).gone) now l h.1)

  sweep_subs-empty : (budget now : ℕ) (l : List Sub) → empty (sweep_subs budget now l).subs ≡ empty l
  unfolding sweep_subs
  sweep_subs-empty budget now [] = refl
  sweep_subs-empty budget now (s ∷ l) = refl

  touch-calm : (now : ℕ) (t : Dest) → Calm b t → Calm b (touch_idle now t)
  unfolding touch_idle
  touch-calm now t h = record {
    subs = by-if (λ (u : Dest). (u.kind ≡ queue → b ≡ false) → All (Rests u.kind) u.subs) (empty t.pending && (empty t.subs && empty t.producers)) _ _ (λ c. h.subs) (λ c. h.subs);
    idle = touch-idle now t;
  }

  sweep-calm : (now most : ℕ) (t : Dest) → Calm b t → Calm b (sweep_expired now most t).dest
  unfolding sweep_expired
  sweep-calm now most t h = by-test (ltb 0 ((sweep_list most (due now t) t.pending).gone + (sweep_subs (most - (sweep_list most (due now t) t.pending).gone) (due now t) t.subs).gone))
      (λ c. rw c (touch-calm now _ swept))
      (λ c. rw c swept)
    where
      w : Swept
      w = sweep_list most (due now t) t.pending

      r : SweptSubs
      r = sweep_subs (most - w.gone) (due now t) t.subs

      swept : Calm b (count (add_expired (w.gone + r.gone)) (with_pending w.list (with_subs r.subs t)))
      swept = record {
        subs = λ l. sweep_subs-rests t.kind (most - w.gone) (due now t) t.subs (h.subs l);
        idle = λ q. h.idle (sym (sweep_subs-empty (most - w.gone) (due now t) t.subs) ∙ q);
      }

  duplicate-calm : (i : Id) (q : ℕ) (t : Dest) → Calm b t → Calm b (is_duplicate i q t).dest
  unfolding is_duplicate test_at
  duplicate-calm i q t h = go (find (audit_of i) t.audits) refl
    where
      go : (o : Option Audit) → find (audit_of i) t.audits ≡ o → Calm b (is_duplicate i q t).dest
      go none e = rw e (record { subs = h.subs; idle = h.idle })
      go (some a) e = rw e (by-test (seen q a.order) (λ c. rw c h) (λ c. rw c (record { subs = h.subs; idle = h.idle })))

  -- clear, of a topic
  cleared-rests : (l : List Sub) → All RestsTopic (map cleared l)
  cleared-rests [] = tt
  cleared-rests (s ∷ l) = ((λ c. refl), cleared-rests l)

  clear-calm : (t : Dest) → Calm b t → Calm true (clear t).dest
  unfolding clear
  clear-calm t h = record { subs = λ l. only t.kind l; idle = λ q. h.idle (sym (same-empty t.subs) ∙ q) }
    where
      only : (k : Kind) → (k ≡ queue → true ≡ false) → All (Rests k) (map cleared t.subs)
      only topic l = cleared-rests t.subs
      only queue l = absurd (true≢false (l refl))

      same-empty : (l : List Sub) → empty (map cleared l) ≡ empty l
      same-empty [] = refl
      same-empty (s ∷ l) = refl

  perform-calm : (c : Call) (t : Dest) → Calm b t → Calm (is_clear c || b) (perform t c).dest
  unfolding perform
  perform-calm (enqueuing e now) t h = enqueue-calm t.kind now e t refl h
  perform-calm (joining p now) t h = join-calm now p t
  perform-calm (leaving i last now) t h = leave-calm now i last t h
  perform-calm (asking i q) t h = ask-calm i q t h
  perform-calm (unmarking i) t h = unmark-calm i t h
  perform-calm (releasing i now) t h = release-calm now i t h
  perform-calm (sweeping now most) t h = sweep-calm now most t h
  perform-calm clearing t h = clear-calm t h
  perform-calm (adding i) t h = record { subs = h.subs; idle = λ q. refl }
  perform-calm (removing i now) t h = touch-calm now _ (record { subs = h.subs; idle = h.idle })
  perform-calm (testing i q) t h = by-test (eqb i.conn 0) (λ c. rw c h) (λ c. rw c (duplicate-calm i q t h))
  perform-calm (forgetting conn) t h = record { subs = h.subs; idle = h.idle }
  perform-calm discarding t h = record { subs = h.subs; idle = h.idle }
  perform-calm missing t h = record { subs = h.subs; idle = h.idle }

  pub call-calm : (lent : Lengths) (c : Call) (t : Dest) → refusal lent c t ≡ 0 → Calm b t → Calm (is_clear c || b) (call lent c t).dest
  unfolding call
  call-calm lent c t z h = rw z (let k = perform-calm c t h in record { subs = k.subs; idle = k.idle })

made-calm : (b : Bool) (t : Dest) → Made b t → Calm b t
made-calm b t (opens k topic_limit call_limit now allowance share e) = record { subs = λ l. tt; idle = λ q. absurd (true≢false q) }
made-calm b t (calls {b = d} {t = u} lent c r e) = call-calm d lent c u e (made-calm d u r)

-- as accepted calls left it
pub reached-calm : (b : Bool) (t : Dest) → Reached b t → Calm b t
reached-calm b t r = made-calm b t (made b t r)
