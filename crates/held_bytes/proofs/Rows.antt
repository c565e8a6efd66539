-- What holds of every row, redelivered ones too, every call keeps; an enqueue needs it of its entry. Assumes nothing.
use Prim.Native.Nat.{ℕ, zero, suc, ◌-◌, ◌+◌}
use mathlib.Core.Path.{◌≡◌, refl, subst⁻¹}
use mathlib.Core.Bool.{Bool, true, false, not, ◌&&◌, ◌||◌}
use mathlib.Core.List.{List, [], ◌∷◌, ◌++◌, map}
use mathlib.Core.Option.{Option, none, some}
use lib.Dec.{leb, ltb, eqb}
use lib.ListN.{length, drop}
use lib.IntN.{ℤ, pos}
use lib.Signed.{lt_z}
use Rattle.audit.specs.Audit.{seen}
use Rattle.definition.specs.Base.{whether◌then◌else◌, keep, nth, empty}
use Rattle.definition.specs.Types.{Kind, queue, topic, Id, Entry, Inflight, Sub, Stats, Held, Audit, Dest, with_prefetch, with_cursor, with_pull, with_generation, with_tpending, with_pending, with_subs, with_idle, with_reserved}
use Rattle.definition.specs.Consumer.{shown, add_expired, zero_stats, expired, selects, is_browser, snapshot, with_snapshot, has_credit, accepts, send, send_null, redelivered, freed_as, free, remove_inflight, bumped, redeliver, Ack, AckType, Delivered, Poison, Standard, Redelivered, Individual, Unmatched, Expired, Other, ack_type, ack_range, ack_last, ack_transacted, ack_plain, ack_sub, Step, meet_topic, drain_topic, at_rest, Browse, same_seq, meet_browser, close_browser, drain_browser, dispatch_browser}
use Rattle.definition.specs.Destination.{Out, Answer, Look, look, Turn, given, visit_at, visit, scan, turns, rounds, Browsed, browsers, dispatch_queue, serve_all, dispatch_topic, dispatch_by, dispatch, count, is_id, sub_of, put_sub, insert, touch_idle, hold_back, due, Trimmed, trim, fan_out, fan_out_all, stored, fanned_out, enqueue_by, Spec, room, joined, add_sub, prefetch_at, set_prefetch, insert_all, hold_back_all, reinsert, held_by, reserved_of, ack_reserved, ack_at, ack, pulled, resumed, pull_at, pull, fired, timeout_at, pull_timeout, was_delivered, returned_from, reserved_from, without, returning, drop_sub, remove_at, remove_sub, no_tx, unmarked, return_reserved, Swept, sweep_at, sweep_list, sweep_subs, sweep_expired, emptied, cleared, clear, test_at, is_duplicate, soonest}
use Rattle.definition.specs.Calls.{acknowledge, pulling, timed_out, prefetching, ask, Call, enqueuing, joining, leaving, asking, unmarking, releasing, sweeping, clearing, adding, removing, testing, forgetting, discarding, missing, perform}
use Rattle.definition.proofs.Tests.{by-if}
use Rattle.definition.proofs.Lists.{All, all-put, all-find, all-part, all_join, all-nth, all_set}
use Rattle.definition.proofs.Local.{browsed}

-- ---- lists

module _ {A : Type 0} (P : A → Type 0) where
  dropped : (n : ℕ) (l : List A) → All P l → All P (drop n l)
  dropped zero l h = h
  dropped (suc n) [] h = h
  dropped (suc n) (a ∷ l) h = dropped n l h.1

pub mapped : {A B : Type 0} (P : A → Type 0) (Q : B → Type 0) (f : A → B) → ((a : A) → P a → Q (f a)) → (l : List A) → All P l → All Q (map f l)
mapped P Q f g [] h = tt
mapped P Q f g (a ∷ l) h = (g a h.0, mapped P Q f g l h.1)

module _ (P : Entry → Type 0) (again : (e : Entry) → P e → P (redelivered e)) where
  abbrev pub Flies : Inflight → Type 0
  Flies i = P i.entry

  abbrev pub Kept : Held → Type 0
  Kept h = P h.entry

  -- of a consumer's rows
  pub record Mine (s : Sub) : Type 0 where
    pub flies : All Flies s.inflight
    pub waits : All P s.tpending
    pub shows : All P (snapshot s)

  -- of every row
  pub record Holds (t : Dest) : Type 0 where
    pub pending : All P t.pending
    pub reserved : All Kept t.reserved
    pub subs : All Mine t.subs

  -- ---- a consumer

  sends : (e : Entry) (s : Sub) → P e → Mine s → Mine (send e s)
  sends e s p m = record { flies = all_join Flies s.inflight _ m.flies (p, tt); waits = m.waits; shows = m.shows }

  drains : (now : ℕ) (l : List Entry) (t : Step) → All P l → Mine t.sub → Mine (drain_topic now l t).sub
  unfolding drain_topic meet_topic
  drains now [] t h m = m
  drains now (e ∷ es) t h m = by-if (λ (x : Step). Mine x.sub) (has_credit t.sub) (drain_topic now es (meet_topic now e es t)) t
      (λ c. drains now es (meet_topic now e es t) h.1 (by-if (λ (x : Step). Mine x.sub) (expired (pos now) e) _ _ (λ d. less) (λ d. sends e (with_tpending es t.sub) h.0 less)))
      (λ c. m)
    where
      less : Mine (with_tpending es t.sub)
      less = record { flies = m.flies; waits = h.1; shows = m.shows }

  serves : (now : ℕ) (l : List Sub) → All Mine l → All Mine (serve_all now l).subs
  unfolding serve_all
  serves now [] h = tt
  serves now (s ∷ l) h = (drains now s.tpending (at_rest s) h.0.waits h.0, serves now l h.1)

  record Browses (b : Browse) : Type 0 where
    sub : Mine b.sub
    pending : All P b.pending

  browse : (now : ℕ) (l : List Entry) (b : Browse) → All P l → Browses b → Browses (drain_browser now l b)
  unfolding drain_browser meet_browser close_browser
  browse now [] b h m = by-if Browses (has_credit b.sub) (close_browser b) b
      (λ c. by-if Browses b.sub.finished b _ (λ d. m) (λ d. record { sub = record { flies = m.sub.flies; waits = m.sub.waits; shows = m.sub.shows }; pending = m.pending }))
      (λ c. m)
  browse now (e ∷ es) b h m = by-if Browses (has_credit b.sub) (drain_browser now es (meet_browser now e es b)) b
      (λ c. browse now es (meet_browser now e es b) h.1 (by-if Browses (expired (pos now) e) _ _
      (λ d. record { sub = less; pending = all-part P (λ f. not (same_seq e f)) b.pending m.pending })
      (λ d. record { sub = sends e (with_snapshot es b.sub) h.0 less; pending = m.pending })))
      (λ c. m)
    where
      less : Mine (with_snapshot es b.sub)
      less = record { flies = m.sub.flies; waits = m.sub.waits; shows = h.1 }

  record AllBrowse (b : Browsed) : Type 0 where
    subs : All Mine b.subs
    pending : All P b.pending

  browses : (now : ℕ) (l : List Sub) (p : List Entry) → All Mine l → All P p → AllBrowse (browsers now l p)
  unfolding browsers
  browses now [] p h g = record { subs = tt; pending = g }
  browses now (s ∷ l) p h g =
      let b : Browses (browsed now p s) = by-if Browses (is_browser s) (dispatch_browser now p s) (record { sub = s; pending = p; counts = zero_stats; events = [] })
      (λ c. browse now (snapshot s) (record { sub = s; pending = p; counts = zero_stats; events = [] }) h.0.shows (record { sub = h.0; pending = g }))
      (λ c. record { sub = h.0; pending = g }) in
      let r = browses now l (browsed now p s).pending h.1 b.pending in
      record { subs = (b.sub, r.subs); pending = r.pending }

  -- ---- a queue's turns

  Chosen : Option Entry → Type 0
  Chosen none = Unit {0}
  Chosen (some e) = P e

  record Looks (l : Look) : Type 0 where
    pending : All P l.pending
    chosen : Chosen l.chosen

  looks : (now : ℕ) (s : Sub) (c : ℕ) (l : List Entry) → All P l → Looks (look now s c l)
  unfolding look Chosen
  looks now s c [] h = record { pending = tt; chosen = tt }
  looks now s c (e ∷ es) h = by-if Looks (leb e.seq s.cursor) _ _
      (λ x. let r = looks now s c es h.1 in record { pending = (h.0, r.pending); chosen = r.chosen })
      (λ x. by-if Looks (expired (pos now) e) _ _
      (λ y. let r = looks now s c es h.1 in record { pending = r.pending; chosen = r.chosen })
      (λ y. by-if Looks (accepts s e) _ _
      (λ z. record { pending = h.1; chosen = h.0 })
      (λ z. let r = looks now s e.seq es h.1 in record { pending = (h.0, r.pending); chosen = r.chosen })))

  gives : (i : ℕ) (s : Sub) (l : Look) (t : Dest) (o : Option Entry) → Holds t → Mine s → All P l.pending → Chosen o → Holds (given i s l t o).dest
  unfolding given Chosen
  gives i s l t none h m p c = record { pending = p; reserved = h.reserved; subs = all_set Mine i t.subs _ h.subs (record { flies = m.flies; waits = m.waits; shows = m.shows }) }
  gives i s l t (some e) h m p c = record { pending = p; reserved = h.reserved; subs = all_set Mine i t.subs _ h.subs (sends e (with_cursor l.cursor s) c (record { flies = m.flies; waits = m.waits; shows = m.shows })) }

  visits : (now i : ℕ) (t : Dest) (o : Option Sub) → nth i t.subs ≡ o → Holds t → Holds (visit_at now i t o).dest
  unfolding visit_at
  visits now i t none e h = h
  visits now i t (some s) e h = by-if (λ (x : Turn). Holds x.dest) (is_browser s || not (has_credit s)) _ _ (λ c. h)
      (λ c. let r = looks now s s.cursor t.pending h.pending in gives i s (look now s s.cursor t.pending) t _ h (all-nth Mine i t.subs s h.subs e) r.pending r.chosen)

  scans : (now : ℕ) (is : List ℕ) (t : Dest) → Holds t → Holds (scan now is t).dest
  unfolding scan visit
  scans now [] t h = h
  scans now (i ∷ is) t h = by-if (λ (x : Turn). Holds x.dest) (visit now i t).took (visit now i t) (scan now is (visit now i t).dest) (λ c. visits now i t (nth i t.subs) refl h) (λ c. scans now is (visit now i t).dest (visits now i t (nth i t.subs) refl h))

  goes : (fuel now : ℕ) (t : Dest) → Holds t → Holds (rounds fuel now t).dest
  unfolding rounds
  goes zero now t h = h
  goes (suc fuel) now t h = by-if (λ (x : Out). Holds x.dest) (not (scan now (turns t) t).took || empty (scan now (turns t) t).dest.pending) _ _
      (λ c. scans now (turns t) t h)
      (λ c. goes fuel now (scan now (turns t) t).dest (scans now (turns t) t h))

  pub dispatches : (k : Kind) (now : ℕ) (t : Dest) → Holds t → Holds (dispatch_by now t k).dest
  unfolding dispatch_by dispatch_topic dispatch_queue
  dispatches topic now t h = record { pending = h.pending; reserved = h.reserved; subs = serves now t.subs h.subs }
  dispatches queue now t h = by-if (λ (x : Out). Holds x.dest) (empty t.subs) _ _ (λ c. h)
      (λ c.
      let b = browses now t.subs t.pending h.subs h.pending in
      goes (suc (length (browsers now t.subs t.pending).pending)) now (count (browsers now t.subs t.pending).counts (with_pending (browsers now t.subs t.pending).pending (with_subs (browsers now t.subs t.pending).subs t)))
      (record { pending = b.pending; reserved = h.reserved; subs = b.subs }))

  touches : (now : ℕ) (t : Dest) → Holds t → Holds (touch_idle now t)
  unfolding touch_idle
  touches now t h = by-if Holds (empty t.pending && (empty t.subs && empty t.producers)) _ _ (λ c. record { pending = h.pending; reserved = h.reserved; subs = h.subs }) (λ c. record { pending = h.pending; reserved = h.reserved; subs = h.subs })

  -- ---- enqueue

  inserted : (e : Entry) (l : List Entry) → P e → All P l → All P (insert e l)
  inserted e [] p h = (p, tt)
  inserted e (f ∷ l) p h = by-if (All P) (ltb e.seq f.seq) _ _ (λ c. (p, h)) (λ c. by-if (All P) (eqb e.seq f.seq) _ _ (λ d. (p, h.1)) (λ d. (h.0, inserted e l p h.1)))

  back : (n : ℕ) (s : Sub) → Mine s → Mine (hold_back n s)
  back n s m = record { flies = m.flies; waits = m.waits; shows = m.shows }

  trims : (now limit : ℕ) (l : List Entry) → All P l → All P (trim now limit l).list
  unfolding trim
  trims now limit l h = by-if (λ (x : Trimmed). All P x.list) (eqb limit 0 || leb (length l) limit) _ _ (λ c. h)
      (λ c. dropped P (length (keep (λ e. not (expired (pos now) e)) l) - limit) (keep (λ e. not (expired (pos now) e)) l) (all-part P (λ e. not (expired (pos now) e)) l h))

  fans : (now limit : ℕ) (e : Entry) (l : List Sub) → P e → All Mine l → All Mine (fan_out_all now limit e l).subs
  unfolding fan_out_all fan_out
  fans now limit e [] p h = tt
  fans now limit e (s ∷ l) p h = (by-if (λ (x : Step). Mine x.sub) (accepts s e) _ _ (λ c. record { flies = h.0.flies; waits = trims now limit (insert e s.tpending) (inserted e s.tpending p h.0.waits); shows = h.0.shows }) (λ c. h.0), fans now limit e l p h.1)

  enqueues : (k : Kind) (now : ℕ) (e : Entry) (t : Dest) → P e → Holds t → Holds (enqueue_by now e t k).dest
  unfolding enqueue_by dispatch_by
  enqueues queue now e t p h = dispatches queue (due now t) (stored e t) (record { pending = inserted e t.pending p h.pending; reserved = h.reserved; subs = mapped Mine Mine (hold_back e.seq) (back e.seq) t.subs h.subs })
  enqueues topic now e t p h = dispatches topic (due now t) (fanned_out (due now t) e t) (record { pending = h.pending; reserved = h.reserved; subs = fans (due now t) t.topic_limit e t.subs p h.subs })

  -- ---- codes 4 to 7

  kept_rows : (s v : Sub) → v.tpending ≡ s.tpending → snapshot v ≡ snapshot s → All Flies v.inflight → Mine s → Mine v
  kept_rows s v a b f m = record { flies = f; waits = subst⁻¹ (All P) a m.waits; shows = subst⁻¹ (All P) b m.shows }

  frees : (hit : Inflight → Bool) (tx : Bool) (s : Sub) → Mine s → Mine (free hit tx s)
  frees hit tx s m = kept_rows s (free hit tx s) refl refl (mapped Flies Flies (freed_as hit tx) (λ i p. by-if Flies (hit i) _ i (λ c. p) (λ c. p)) s.inflight m.flies) m

  removes : (hit : Inflight → Bool) (s : Sub) → Mine s → Mine (remove_inflight hit s)
  removes hit s m = kept_rows s (remove_inflight hit s) refl refl (all-part Flies (λ i. not (hit i)) s.inflight m.flies) m

  redelivers : (hit : Inflight → Bool) (s : Sub) → Mine s → Mine (redeliver hit s)
  redelivers hit s m = kept_rows s (redeliver hit s) refl refl (mapped Flies Flies (bumped hit) (λ i p. by-if Flies (hit i) _ i (λ c. again i.entry p) (λ c. p)) s.inflight m.flies) m

  acks_in : (y : AckType) (a : Ack) (s : Sub) → Mine s → Mine (ack_transacted a s y)
  unfolding ack_transacted
  acks_in Standard a s m = frees (ack_range s a true) true s m
  acks_in Unmatched a s m = frees (ack_range s a true) true s m
  acks_in Poison a s m = frees (ack_range s a false) true s m
  acks_in Redelivered a s m = frees (ack_range s a false) true s m
  acks_in Individual a s m = frees (ack_last s a) true s m
  acks_in Expired a s m = frees (ack_range s a false) true s m
  acks_in Other a s m = frees (ack_range s a false) true s m
  acks_in Delivered a s m = frees (ack_range s a false) false s m

  acks_out : (y : AckType) (a : Ack) (s : Sub) → Mine s → Mine (ack_plain a s y).sub
  unfolding ack_plain
  acks_out Delivered a s m = frees (ack_range s a false) false s m
  acks_out Standard a s m = removes (ack_range s a true) s m
  acks_out Unmatched a s m = removes (ack_range s a true) s m
  acks_out Individual a s m = removes (ack_last s a) s m
  acks_out Poison a s m = removes (ack_range s a false) s m
  acks_out Redelivered a s m = redelivers (ack_range s a false) s m
  acks_out Expired a s m = removes (ack_range s a false) s m
  acks_out Other a s m = m

  acks_sub : (a : Ack) (s : Sub) → Mine s → Mine (ack_sub a s).sub
  unfolding ack_sub
  acks_sub a s m = by-if (λ (x : Step). Mine x.sub) a.transacted _ _ (λ c. acks_in (ack_type a.type) a s m) (λ c. acks_out (ack_type a.type) a s m)

  puts : (i : Id) (v : Sub) (t : Dest) → Mine v → Holds t → Holds (put_sub i v t)
  puts i v t m h = record { pending = h.pending; reserved = h.reserved; subs = all-put Mine (is_id i) t.subs v h.subs m }

  finds : (i : Id) (s : Sub) (t : Dest) → sub_of i t ≡ some s → Holds t → Mine s
  finds i s t e h = all-find Mine (is_id i) t.subs s h.subs e

  counts : (c : Stats) (t : Dest) → Holds t → Holds (count c t)
  counts c t h = record { pending = h.pending; reserved = h.reserved; subs = h.subs }

  acks_reserved : (i : Id) (a : Ack) (t : Dest) (o : Option ℕ) → Holds t → Holds (ack_reserved i a t o).dest
  unfolding ack_reserved
  acks_reserved i a t none h = h
  acks_reserved i a t (some last) h = record { pending = h.pending; reserved = all-part Kept _ t.reserved h.reserved; subs = h.subs }

  acks : (now : ℕ) (i : Id) (a : Ack) (t : Dest) (o : Option Sub) → sub_of i t ≡ o → Holds t → Holds (ack_at now i a t o).dest
  unfolding ack_at
  acks now i a t none e h = by-if (λ (x : Out). Holds x.dest) (a.transacted || empty (reserved_of i t)) _ _ (λ c. h)
      (λ c. dispatches _ _ (touch_idle now (ack_reserved i a t a.last).dest) (touches now (ack_reserved i a t a.last).dest (acks_reserved i a t a.last h)))
  acks now i a t (some s) e h =
      let u : Dest = count (ack_sub a s).counts (put_sub i (ack_sub a s).sub t) in
      dispatches _ _ (touch_idle now u) (touches now u (counts (ack_sub a s).counts (put_sub i (ack_sub a s).sub t) (puts i (ack_sub a s).sub t (acks_sub a s (finds i s t e h)) h)))

  nulls : (s : Sub) → Mine s → Mine (send_null s)
  nulls s m = kept_rows s (send_null s) refl refl m.flies m

  pulls : (i : Id) (timeout : ℤ) (s : Sub) (r : Out) (o : Option ℕ) → Mine s → Holds r.dest → Holds (pulled i timeout s r o).dest
  unfolding pulled
  pulls i timeout s r none m h = h
  pulls i timeout s r (some g) m h = by-if (λ (x : Answer). Holds x.dest) (lt_z timeout (pos 0)) _ _ (λ c. puts i (send_null s) r.dest (nulls s m) h) (λ c. by-if (λ (x : Answer). Holds x.dest) (lt_z (pos 0) timeout) _ _ (λ d. h) (λ d. h))

  resumes : (i : Id) (timeout : ℤ) (r : Out) (o : Option Sub) → sub_of i r.dest ≡ o → Holds r.dest → Holds (resumed i timeout r o).dest
  unfolding resumed
  resumes i timeout r none e h = h
  resumes i timeout r (some s) e h = pulls i timeout s r s.pull (finds i s r.dest e h) h

  pulls_at : (now : ℕ) (i : Id) (timeout : ℤ) (t : Dest) (o : Option Sub) → sub_of i t ≡ o → Holds t → Holds (pull_at now i timeout t o).dest
  unfolding pull_at
  pulls_at now i timeout t none e h = h
  pulls_at now i timeout t (some s) e h =
      let v : Sub = with_pull (some (s.generation + 1)) (with_generation (s.generation + 1) s) in
      let m = finds i s t e h in
      by-if (λ (x : Answer). Holds x.dest) (ltb 0 s.prefetch) _ _ (λ c. h)
      (λ c. resumes i timeout (dispatch now (put_sub i v t)) _ refl (dispatches t.kind (due now t) (put_sub i v t) (puts i v t (record { flies = m.flies; waits = m.waits; shows = m.shows }) h)))

  fires : (i : Id) (generation : ℕ) (s : Sub) (t : Dest) (o : Option ℕ) → Mine s → Holds t → Holds (fired i generation s t o).dest
  unfolding fired
  fires i generation s t none m h = h
  fires i generation s t (some g) m h = by-if (λ (x : Out). Holds x.dest) (eqb g generation) _ _ (λ c. puts i (send_null s) t (nulls s m) h) (λ c. h)

  times_out : (i : Id) (generation : ℕ) (t : Dest) (o : Option Sub) → sub_of i t ≡ o → Holds t → Holds (timeout_at i generation t o).dest
  unfolding timeout_at
  times_out i generation t none e h = h
  times_out i generation t (some s) e h = fires i generation s t s.pull (finds i s t e h) h

  prefetches : (i : Id) (p : ℤ) (t : Dest) (o : Option Sub) → sub_of i t ≡ o → Holds t → Holds (prefetch_at i p t o)
  prefetches i p t none e h = h
  prefetches i p t (some s) e h = let m = finds i s t e h in puts i (with_prefetch (room p) s) t (record { flies = m.flies; waits = m.waits; shows = m.shows }) h

  -- ---- the other calls

  joins : (now : ℕ) (p : Spec) (t : Dest) → Holds t → Holds (joined now p t)
  joins now p t h =
      let live = all-part P (λ e. not (expired (pos (due now t)) e)) t.pending h.pending in
      by-if (λ (d : Dest). Holds (with_idle none d)) p.browser _ _
      (λ c. record { pending = live; reserved = h.reserved; subs = all_join Mine t.subs _ h.subs (record { flies = tt; waits = tt; shows = all-part P (λ e. selects e.match_word p.selector) (keep (λ e. not (expired (pos (due now t)) e)) t.pending) live }, tt) })
      (λ c. record { pending = h.pending; reserved = h.reserved; subs = all_join Mine t.subs _ h.subs (record { flies = tt; waits = tt; shows = tt }, tt) })

  inserts_all : (l m : List Entry) → All P l → All P m → All P (insert_all l m)
  inserts_all [] m h g = g
  inserts_all (e ∷ l) m h g = inserts_all l (insert e m) h.1 (inserted e m h.0 g)

  back_all : (l : List Entry) (s : Sub) → Mine s → Mine (hold_back_all l s)
  back_all [] s m = m
  back_all (e ∷ l) s m = back_all l (hold_back e.seq s) (back e.seq s m)

  reinserts : (now : ℕ) (es : List Entry) (t : Dest) → All P es → Holds t → Holds (reinsert now es t)
  unfolding reinsert
  reinserts now es t p h =
      let live = all-part P (λ e. not (expired (pos (due now t)) e)) es p in
      record { pending = inserts_all (keep (λ e. not (expired (pos (due now t)) e)) es) t.pending live h.pending; reserved = h.reserved; subs = mapped Mine Mine (hold_back_all (keep (λ e. not (expired (pos (due now t)) e)) es)) (back_all (keep (λ e. not (expired (pos (due now t)) e)) es)) t.subs h.subs }

  returned : (last : ℤ) (l : List Inflight) → All Flies l → All P (returned_from last l)
  returned last [] h = tt
  returned last (i ∷ l) h = by-if (All P) i.tx _ _ (λ c. returned last l h.1) (λ c. (by-if P (was_delivered last i.entry) (redelivered i.entry) i.entry (λ d. again i.entry h.0) (λ d. h.0), returned last l h.1))

  reserved_out : (j : Id) (l : List Inflight) → All Flies l → All Kept (reserved_from j l)
  reserved_out j [] h = tt
  reserved_out j (i ∷ l) h = by-if (All Kept) i.tx _ _ (λ c. (h.0, reserved_out j l h.1)) (λ c. reserved_out j l h.1)

  lacks : (p : Sub → Bool) (l : List Sub) → All Mine l → All Mine (without p l)
  lacks p [] h = tt
  lacks p (s ∷ l) h = by-if (All Mine) (p s) l _ (λ c. h.1) (λ c. (h.0, lacks p l h.1))

  returns : (k : Kind) (now : ℕ) (s : Sub) (last : ℤ) (t : Dest) → Mine s → Holds t → Holds (returning now s last t k)
  unfolding returning
  returns topic now s last t m h = h
  returns queue now s last t m h = by-if Holds (is_browser s) t _ (λ c. h)
      (λ c. reinserts now (returned_from last s.inflight) (with_reserved (t.reserved ++ reserved_from s.id s.inflight) t) (returned last s.inflight m.flies)
      (record { pending = h.pending; reserved = all_join Kept t.reserved _ h.reserved (reserved_out s.id s.inflight m.flies); subs = h.subs }))

  leaves : (now : ℕ) (i : Id) (last : ℤ) (t : Dest) (o : Option Sub) → sub_of i t ≡ o → Holds t → Holds (remove_at now i last t o).dest
  unfolding remove_at
  leaves now i last t none e h = h
  leaves now i last t (some s) e h =
      let u : Dest = returning now s last (drop_sub i t) t.kind in
      dispatches _ _ (touch_idle now u) (touches now u (returns t.kind now s last (drop_sub i t) (finds i s t e h) (record { pending = h.pending; reserved = h.reserved; subs = lacks (is_id i) t.subs h.subs })))

  untxed : (i : Id) (t : Dest) → Holds t → Holds (unmarked i t)
  untxed i t h = record { pending = h.pending; reserved = h.reserved; subs = mapped Mine Mine (λ s. whether is_id i s then no_tx s else s) (λ s m. by-if Mine (is_id i s) (no_tx s) s (λ c. kept_rows s (no_tx s) refl refl (mapped Flies Flies _ (λ j p. p) s.inflight m.flies) m) (λ c. m)) t.subs h.subs }

  releases : (now : ℕ) (i : Id) (t : Dest) → Holds t → Holds (return_reserved now i t).dest
  unfolding return_reserved
  releases now i t h =
      let back = mapped P P redelivered again (reserved_of i t) (mapped Kept P (λ x. x.entry) (λ x p. p) (keep (held_by i) t.reserved) (all-part Kept (held_by i) t.reserved h.reserved)) in
      by-if (λ (x : Out). Holds x.dest) (empty (reserved_of i t)) _ _ (λ c. h)
      (λ c. dispatches _ _ _ (reinserts now (map redelivered (reserved_of i t)) (with_reserved (keep (λ x. not (held_by i x)) t.reserved) t) back (record { pending = h.pending; reserved = all-part Kept (λ x. not (held_by i x)) t.reserved h.reserved; subs = h.subs })))

  sweeps_at : (l : List Entry) (go : Entry → Swept) (o : Option Entry) → All P l → ((e : Entry) → All P (go e).list) → All P (sweep_at l go o).list
  unfolding sweep_at
  sweeps_at l go none h g = h
  sweeps_at l go (some e) h g = g e

  sweeps_list : (budget now : ℕ) (l : List Entry) → All P l → All P (sweep_list budget now l).list
  unfolding sweep_list
  sweeps_list zero now l h = h
  sweeps_list (suc budget) now l h = sweeps_at l (λ e. sweep_list budget now (keep (λ f. not (eqb f.seq e.seq)) l)) (soonest now l) h (λ e. sweeps_list budget now (keep (λ f. not (eqb f.seq e.seq)) l) (all-part P (λ f. not (eqb f.seq e.seq)) l h))

  sweeps_subs : (budget now : ℕ) (l : List Sub) → All Mine l → All Mine (sweep_subs budget now l).subs
  unfolding sweep_subs
  sweeps_subs budget now [] h = tt
  sweeps_subs budget now (s ∷ l) h = (record { flies = h.0.flies; waits = sweeps_list budget now s.tpending h.0.waits; shows = h.0.shows }, sweeps_subs (budget - (sweep_list budget now s.tpending).gone) now l h.1)

  sweeps : (now most : ℕ) (t : Dest) → Holds t → Holds (sweep_expired now most t).dest
  unfolding sweep_expired
  sweeps now most t h =
      let w = sweep_list most (due now t) t.pending in
      let r = sweep_subs (most - w.gone) (due now t) t.subs in
      let u : Dest = count (add_expired (w.gone + r.gone)) (with_pending w.list (with_subs r.subs t)) in
      let g : Holds u = record { pending = sweeps_list most (due now t) t.pending h.pending; reserved = h.reserved; subs = sweeps_subs (most - w.gone) (due now t) t.subs h.subs } in
      by-if (λ (x : Answer). Holds x.dest) (ltb 0 (w.gone + r.gone)) _ _ (λ c. touches now u g) (λ c. g)

  empties : (o : Option (List Entry)) → All P (shown (emptied o))
  empties none = tt
  empties (some l) = tt

  tests : (i : Id) (q : ℕ) (t : Dest) (o : Option Audit) → Holds t → Holds (test_at i q t o).dest
  unfolding test_at
  tests i q t none h = record { pending = h.pending; reserved = h.reserved; subs = h.subs }
  tests i q t (some a) h = by-if (λ (x : Answer). Holds x.dest) (seen q a.order) _ _ (λ c. h) (λ c. record { pending = h.pending; reserved = h.reserved; subs = h.subs })

  -- what an enqueue brings
  abbrev pub Brings : Call → Type 0
  Brings (enqueuing e now) = P e
  Brings (joining p now) = Unit {0}
  Brings (leaving i last now) = Unit {0}
  Brings (asking i q) = Unit {0}
  Brings (unmarking i) = Unit {0}
  Brings (releasing i now) = Unit {0}
  Brings (sweeping now most) = Unit {0}
  Brings clearing = Unit {0}
  Brings (adding i) = Unit {0}
  Brings (removing i now) = Unit {0}
  Brings (testing i q) = Unit {0}
  Brings (forgetting conn) = Unit {0}
  Brings discarding = Unit {0}
  Brings missing = Unit {0}

  pub performs : (t : Dest) (c : Call) → Brings c → Holds t → Holds (perform t c).dest
  unfolding perform ask ack pull pull_timeout set_prefetch add_sub remove_sub clear is_duplicate
  performs t (enqueuing e now) p h = enqueues t.kind now e t p h
  performs t (joining p now) b h = dispatches _ _ (joined now p t) (joins now p t h)
  performs t (leaving i last now) b h = leaves now i last t (sub_of i t) refl h
  performs t (asking i (acknowledge a now)) b h = acks now i a t (sub_of i t) refl h
  performs t (asking i (pulling timeout now)) b h = pulls_at now i timeout t (sub_of i t) refl h
  performs t (asking i (timed_out generation)) b h = times_out i generation t (sub_of i t) refl h
  performs t (asking i (prefetching p now)) b h = dispatches _ _ (prefetch_at i p t (sub_of i t)) (prefetches i p t (sub_of i t) refl h)
  performs t (unmarking i) b h = untxed i t h
  performs t (releasing i now) b h = releases now i t h
  performs t (sweeping now most) b h = sweeps now most t h
  performs t clearing b h = record { pending = tt; reserved = tt; subs = mapped Mine Mine cleared (λ s m. record { flies = tt; waits = tt; shows = empties s.browser }) t.subs h.subs }
  performs t (adding i) b h = record { pending = h.pending; reserved = h.reserved; subs = h.subs }
  performs t (removing i now) b h = touches now _ (record { pending = h.pending; reserved = h.reserved; subs = h.subs })
  performs t (testing i q) b h = by-if (λ (x : Answer). Holds x.dest) (eqb i.conn 0) _ _ (λ c. h) (λ c. tests i q t _ h)
  performs t (forgetting conn) b h = record { pending = h.pending; reserved = h.reserved; subs = h.subs }
  performs t discarding b h = counts _ t h
  performs t missing b h = counts _ t h
