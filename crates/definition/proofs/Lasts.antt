-- What goes on waiting. Assumes nothing.
use Prim.Native.Nat.{ℕ, zero, suc, ◌+◌, ◌-◌}
use native.Mathlib.Omega.{arith}
use mathlib.Core.Path.{◌≡◌, refl, sym, ◌∙◌, ap, subst⁻¹}
use mathlib.Core.Bool.{Bool, true, false, true≢false, not, ◌&&◌, ◌||◌}
use mathlib.Core.List.{List, [], ◌∷◌, ◌++◌, map}
use mathlib.Core.Option.{Option, none, some}
use lib.Dec.{leb, ltb, eqb}
use lib.IntN.{ℤ, pos}
use lib.Signed.{lt_z}
use lib.ListN.{length, set}
use borrow.Author.Tests.{eqb-true, eq-eqb}
use Rattle.audit.specs.Audit.{seen}
use Rattle.definition.specs.Base.{whether◌then◌else◌, keep, find, put, nth, empty, all, member}
use Rattle.definition.specs.Types.{Kind, queue, topic, Id, Entry, Sub, Audit, Dest, with_prefetch, with_pull, with_generation, with_cursor, with_pending, with_subs, with_reserved, with_producers, with_audits, with_idle}
use Rattle.definition.specs.Consumer.{same_id, zero_stats, add_expired, expired, selects, is_browser, has_credit, accepts, send, send_null, snapshot, same_seq, redelivered, Ack, ack_sub, Browse, meet_browser, close_browser, drain_browser, dispatch_browser}
use Rattle.definition.specs.Destination.{Out, Answer, Spec, Look, look, given, Turn, visit_at, visit, scan, turns, rounds, browsers, dispatch_queue, serve_all, dispatch_topic, dispatch_by, dispatch, due, touch_idle, count, is_id, sub_of, put_sub, insert, hold_back, hold_back_all, stored, fanned_out, enqueue_by, room, new_sub, joined, add_sub, prefetch_at, set_prefetch, insert_all, reinsert, held_by, reserved_of, ack_reserved, ack_at, ack, pulled, resumed, pull_at, pull, fired, timeout_at, pull_timeout, returned_from, reserved_from, without, returning, drop_sub, remove_at, remove_sub, unmarked, return_reserved, sweep_at, sweep_list, sweep_subs, soonest, sooner, is_sooner, sweep_expired, audit_of, test_at, is_duplicate}
use Rattle.definition.specs.Calls.{seqs, flying, taken, all_rows, held, consumer_rows, sub_sound, sound, Request, acknowledge, pulling, timed_out, prefetching, Call, enqueuing, joining, leaving, asking, unmarking, releasing, sweeping, clearing, adding, removing, testing, forgetting, discarding, missing, own_refusal, ask, perform, call}
use Rattle.definition.specs.Histories.{asked_at, call_clock, yet_to_show, alive_at, WaitsOn}
use Rattle.definition.proofs.Tests.{by-if, by-test, if-true, if-false, or-no-left, or-no-right, and_left, and_right, and_both}
use Rattle.definition.proofs.Lists.{none-some, some_inj, all_append, all_keep, all_left, all_right}
use Rattle.definition.proofs.Local.{browsed}
use Rattle.definition.proofs.Fit.{fit, ack-acked}
use Rattle.definition.proofs.Sound.{facts, find-all}
use Rattle.definition.proofs.Dispatch.{send-flying}
use Rattle.definition.proofs.Room.{touch-pending, touch-subs}
use Rattle.definition.proofs.Made.{call-accepted}
use Rattle.definition.proofs.Kept.{accepted}

module _ (n q : ℕ) where
  abbrev In : List Entry → Type 0
  In l = member q (seqs l) ≡ true

  abbrev Live : List Entry → Type 0
  Live l = all (alive_at n q) l ≡ true

  -- q waits, or is in flight at a consumer that is no browser
  abbrev Has : List Entry → List Sub → Type 0
  Has p l = member q (seqs p) ≡ false → In (taken l)

  has_in : (p : List Entry) (l : List Sub) → In p → Has p l
  has_in p l h g = absurd (true≢false (sym h ∙ g))

  -- an expired one that is alive has another number
  other : (e : Entry) → alive_at n q e ≡ true → expired (pos n) e ≡ true → eqb q e.seq ≡ false
  other e a x = by-test (eqb q e.seq) (λ c. absurd (true≢false (sym a ∙ ap (λ b. not b || not (expired (pos n) e)) c ∙ ap not x))) (λ c. c)

  in_tail : (e : Entry) (l : List Entry) → eqb q e.seq ≡ false → In (e ∷ l) → In l
  in_tail e l c h = sym (ap (λ b. b || member q (seqs l)) c) ∙ h

  in-cons : (e : Entry) (l : List Entry) → In l → In (e ∷ l)
  in-cons e l h = by-test (eqb q e.seq) (λ c. rw c) (λ c. rw c h)

  in_head : (e : Entry) (l : List Entry) → eqb q e.seq ≡ true → In (e ∷ l)
  in_head e l c = rw c

  -- ---- lists

  in-keep : (p : Entry → Bool) (l : List Entry) → all (λ e. not (eqb q e.seq) || p e) l ≡ true → In l → In (keep p l)
  in-keep p [] a h = h
  in-keep p (e ∷ l) a h = by-test (eqb q e.seq)
      (λ c. ap (λ (m : List Entry). member q (seqs m)) (if-true (e ∷ keep p l) (keep p l) (sym (ap (λ b. not b || p e) c) ∙ and_left (not (eqb q e.seq) || p e) _ a)) ∙ in_head e (keep p l) c)
      (λ c. let r = in-keep p l (and_right (not (eqb q e.seq) || p e) _ a) (in_tail e l c h) in by-if In (p e) (e ∷ keep p l) (keep p l) (λ d. in-cons e (keep p l) r) (λ d. r))

  -- those of another number than e's
  apart : (e : Entry) → eqb q e.seq ≡ false → (l : List Entry) → all (λ f. not (eqb q f.seq) || not (eqb e.seq f.seq)) l ≡ true
  apart e h [] = refl
  apart e h (f ∷ l) = and_both (not (eqb q f.seq) || not (eqb e.seq f.seq)) _
      (by-test (eqb q f.seq) (λ c. by-test (eqb e.seq f.seq) (λ d. absurd (true≢false (sym (eq-eqb q e.seq (eqb-true q f.seq c ∙ sym (eqb-true e.seq f.seq d))) ∙ h))) (λ d. rw (c, d))) (λ c. rw c)) (apart e h l)

  apart-too : (e : Entry) → eqb q e.seq ≡ false → (l : List Entry) → all (λ f. not (eqb q f.seq) || not (eqb f.seq e.seq)) l ≡ true
  apart-too e h [] = refl
  apart-too e h (f ∷ l) = and_both (not (eqb q f.seq) || not (eqb f.seq e.seq)) _
      (by-test (eqb q f.seq) (λ c. by-test (eqb f.seq e.seq) (λ d. absurd (true≢false (sym (eq-eqb q e.seq (eqb-true q f.seq c ∙ eqb-true f.seq e.seq d)) ∙ h))) (λ d. rw (c, d))) (λ c. rw c)) (apart-too e h l)

  in_insert : (e : Entry) (l : List Entry) → In l → In (insert e l)
  in_insert e [] h = in-cons e [] h
  in_insert e (f ∷ l) h =
      by-if In (ltb e.seq f.seq) (e ∷ f ∷ l) _ (λ c. in-cons e (f ∷ l) h)
      (λ c. by-if In (eqb e.seq f.seq) (e ∷ l) (f ∷ insert e l)
      (λ d. by-test (eqb q f.seq) (λ x. in_head e l (eq-eqb q e.seq (eqb-true q f.seq x ∙ sym (eqb-true e.seq f.seq d)))) (λ x. in-cons e l (in_tail f l x h)))
      (λ d. by-test (eqb q f.seq) (λ x. in_head f (insert e l) x) (λ x. in-cons f (insert e l) (in_insert e l (in_tail f l x h)))))

  live-insert : (e : Entry) (l : List Entry) → alive_at n q e ≡ true → Live l → Live (insert e l)
  live-insert e [] a h = and_both (alive_at n q e) true a refl
  live-insert e (f ∷ l) a h =
      by-if Live (ltb e.seq f.seq) (e ∷ f ∷ l) _ (λ c. and_both (alive_at n q e) _ a h)
      (λ c. by-if Live (eqb e.seq f.seq) (e ∷ l) (f ∷ insert e l) (λ d. and_both (alive_at n q e) _ a (and_right (alive_at n q f) (all (alive_at n q) l) h))
      (λ d. and_both (alive_at n q f) _ (and_left (alive_at n q f) (all (alive_at n q) l) h) (live-insert e l a (and_right (alive_at n q f) (all (alive_at n q) l) h))))

  in-insert_all : (es l : List Entry) → In l → In (insert_all es l)
  in-insert_all [] l h = h
  in-insert_all (e ∷ es) l h = in-insert_all es (insert e l) (in_insert e l h)

  live-insert_all : (es l : List Entry) → Live es → Live l → Live (insert_all es l)
  live-insert_all [] l a h = h
  live-insert_all (e ∷ es) l a h = live-insert_all es (insert e l) (and_right (alive_at n q e) (all (alive_at n q) es) a) (live-insert e l (and_left (alive_at n q e) (all (alive_at n q) es) a) h)

  -- what has not expired is alive
  live-kept : (l : List Entry) → Live (keep (λ e. not (expired (pos n) e)) l)
  live-kept [] = refl
  live-kept (e ∷ l) = by-test (expired (pos n) e) (λ c. rw c (live-kept l)) (λ c. rw c (and_both (alive_at n q e) _ (by-test (eqb q e.seq) (λ d. rw (d, c)) (λ d. rw d)) (live-kept l)))

  -- ---- a consumer that is no browser looks

  chosen_is : Option Entry → Bool
  chosen_is none = false
  chosen_is (some e) = eqb q e.seq

  look-takes : (s : Sub) (c : ℕ) (l : List Entry) → In l → Live l → member q (seqs (look n s c l).pending) ≡ false → chosen_is (look n s c l).chosen ≡ true
  unfolding look chosen_is
  look-takes s c [] h a = λ g. absurd (true≢false (sym h))
  look-takes s c (e ∷ l) h a =
      let low = and_left (alive_at n q e) (all (alive_at n q) l) a in
      let rest = and_right (alive_at n q e) (all (alive_at n q) l) a in
      let P : Look → Type 0 = λ k. member q (seqs k.pending) ≡ false → chosen_is k.chosen ≡ true in
      by-if P (leb e.seq s.cursor) _ _
      (λ x g. look-takes s c l (in_tail e l (or-no-left (eqb q e.seq) _ g) h) rest (or-no-right (eqb q e.seq) _ g))
      (λ x. by-if P (expired (pos n) e) _ _ (λ y g. look-takes s c l (in_tail e l (other e low y) h) rest g)
      (λ y. by-if P (accepts s e) _ _
      (λ z g. by-test (eqb q e.seq) (λ d. d) (λ d. absurd (true≢false (sym (in_tail e l d h) ∙ g))))
      (λ z g. look-takes s e.seq l (in_tail e l (or-no-left (eqb q e.seq) _ g) h) rest (or-no-right (eqb q e.seq) _ g))))

  look-live : (s : Sub) (c : ℕ) (l : List Entry) → Live l → Live (look n s c l).pending
  unfolding look
  look-live s c [] a = a
  look-live s c (e ∷ l) a =
      let low = and_left (alive_at n q e) (all (alive_at n q) l) a in
      let rest = and_right (alive_at n q e) (all (alive_at n q) l) a in
      let P : Look → Type 0 = λ k. Live k.pending in
      by-if P (leb e.seq s.cursor) _ _ (λ x. and_both (alive_at n q e) _ low (look-live s c l rest))
      (λ x. by-if P (expired (pos n) e) _ _ (λ y. look-live s c l rest)
      (λ y. by-if P (accepts s e) _ _ (λ z. rest) (λ z. and_both (alive_at n q e) _ low (look-live s e.seq l rest))))

  -- ---- in flight at consumers that are no browsers

  in_left : (l m : List Entry) → In l → In (l ++ m)
  in_left [] m h = absurd (true≢false (sym h))
  in_left (e ∷ l) m h = by-test (eqb q e.seq) (λ c. in_head e (l ++ m) c) (λ c. in-cons e (l ++ m) (in_left l m (in_tail e l c h)))

  in_right : (l m : List Entry) → In m → In (l ++ m)
  in_right [] m h = h
  in_right (e ∷ l) m h = in-cons e (l ++ m) (in_right l m h)

  in_either : (l m : List Entry) → In (l ++ m) → (In l → In l) → member q (seqs l) ≡ false → In m
  in_either [] m h f g = h
  in_either (e ∷ l) m h f g = in_either l m (in_tail e (l ++ m) (or-no-left (eqb q e.seq) (member q (seqs l)) g) h) (λ x. x) (or-no-right (eqb q e.seq) (member q (seqs l)) g)

  abbrev own : Sub → List Entry
  own s = whether is_browser s then [] else flying s

  taken-set : (k : ℕ) (l : List Sub) (s v : Sub) → nth k l ≡ some s → (In (own s) → In (own v)) → In (taken l) → In (taken (set l k v))
  taken-set k [] s v f g h = h
  taken-set zero (r ∷ l) s v f g h = by-test (member q (seqs (own r)))
      (λ c. in_left (own v) (taken l) (g (ap (λ x. member q (seqs (own x))) (sym (some_inj f)) ∙ c)))
      (λ c. in_right (own v) (taken l) (in_either (own r) (taken l) h (λ x. x) c))
  taken-set (suc k) (r ∷ l) s v f g h = by-test (member q (seqs (own r)))
      (λ c. in_left (own r) (taken (set l k v)) c)
      (λ c. in_right (own r) (taken (set l k v)) (taken-set k l s v f g (in_either (own r) (taken l) h (λ x. x) c)))

  taken-has : (k : ℕ) (l : List Sub) (s v : Sub) → nth k l ≡ some s → In (own v) → In (taken (set l k v))
  taken-has k [] s v f g = absurd (none-some f)
  taken-has zero (r ∷ l) s v f g = in_left (own v) (taken l) g
  taken-has (suc k) (r ∷ l) s v f g = in_right (own r) (taken (set l k v)) (taken-has k l s v f g)

  abbrev HasDest : Dest → Type 0
  HasDest t = Has t.pending t.subs

  abbrev LiveDest : Dest → Type 0
  LiveDest t = Live t.pending

  cursor-own : (c : ℕ) (s : Sub) → In (own s) → In (own (with_cursor c s))
  unfolding is_browser
  cursor-own c s h = h

  sent-own : (c : ℕ) (e : Entry) (s : Sub) → is_browser s ≡ false → own (send e (with_cursor c s)) ≡ flying s ++ e ∷ []
  unfolding is_browser
  sent-own c e s b = if-false [] (flying (send e (with_cursor c s))) b ∙ send-flying (with_cursor c s) e

  given-has : (k : ℕ) (s : Sub) (l : Look) (t : Dest) (o : Option Entry) → is_browser s ≡ false → nth k t.subs ≡ some s → HasDest t
      → (In t.pending → member q (seqs l.pending) ≡ false → chosen_is o ≡ true) → HasDest (given k s l t o).dest
  unfolding given chosen_is
  given-has k s l t none b f h x g = by-test (member q (seqs t.pending))
      (λ c. absurd (true≢false (sym (x c g))))
      (λ c. taken-set k t.subs s (with_cursor l.cursor s) f (cursor-own l.cursor s) (h c))
  given-has k s l t (some e) b f h x g = by-test (member q (seqs t.pending))
      (λ c. taken-has k t.subs s (send e (with_cursor l.cursor s)) f (ap (λ m. member q (seqs m)) (sent-own l.cursor e s b) ∙ in_right (flying s) (e ∷ []) (in_head e [] (x c g))))
      (λ c. taken-set k t.subs s (send e (with_cursor l.cursor s)) f (λ y. ap (λ m. member q (seqs m)) (sent-own l.cursor e s b) ∙ in_left (flying s) (e ∷ []) (sym (ap (λ m. member q (seqs m)) (if-false [] (flying s) b)) ∙ y)) (h c))

  given-live : (k : ℕ) (s : Sub) (l : Look) (t : Dest) (o : Option Entry) → Live l.pending → LiveDest (given k s l t o).dest
  unfolding given
  given-live k s l t none h = h
  given-live k s l t (some e) h = h

  no-browser : (a b : Bool) → (a || b) ≡ false → a ≡ false
  no-browser a b h = or-no-left a b h

  visit-has : (k : ℕ) (t : Dest) (o : Option Sub) → nth k t.subs ≡ o → HasDest t → LiveDest t → HasDest (visit_at n k t o).dest × LiveDest (visit_at n k t o).dest
  unfolding visit_at
  visit-has k t none f h a = (h, a)
  visit-has k t (some s) f h a =
      let l = look n s s.cursor t.pending in
      by-if (λ (r : Turn). HasDest r.dest × LiveDest r.dest) (is_browser s || not (has_credit s)) (record { took = false; dest = t; events = [] }) (given k s l t l.chosen) (λ c. (h, a))
      (λ c. (given-has k s l t l.chosen (no-browser (is_browser s) (not (has_credit s)) c) f h (λ i g. look-takes s s.cursor t.pending i a g), given-live k s l t l.chosen (look-live s s.cursor t.pending a)))

  scan-has : (is : List ℕ) (t : Dest) → HasDest t → LiveDest t → HasDest (scan n is t).dest × LiveDest (scan n is t).dest
  unfolding scan visit
  scan-has [] t h a = (h, a)
  scan-has (k ∷ is) t h a =
      let here = visit n k t in
      let v = visit-has k t (nth k t.subs) refl h a in
      by-if (λ (r : Turn). HasDest r.dest × LiveDest r.dest) here.took here (scan n is here.dest) (λ c. v) (λ c. scan-has is here.dest v.0 v.1)

  rounds-has : (fuel : ℕ) (t : Dest) → HasDest t → LiveDest t → HasDest (rounds fuel n t).dest
  unfolding rounds
  rounds-has zero t h a = h
  rounds-has (suc fuel) t h a =
      let here = scan n (turns t) t in
      let later = rounds fuel n here.dest in
      let v = scan-has (turns t) t h a in
      by-if (λ (r : Out). HasDest r.dest) (not here.took || empty here.dest.pending) (record { dest = here.dest; events = here.events }) (record { dest = later.dest; events = here.events ++ later.events }) (λ c. v.0) (λ c. rounds-has fuel here.dest v.0 v.1)

  -- ---- browsers

  record Kept (p : List Entry) : Type 0 where
    in-it : In p
    live : Live p

  met-kept : (e : Entry) (es : List Entry) (b : Browse) → alive_at n q e ≡ true → Kept b.pending → Kept (meet_browser n e es b).pending
  unfolding meet_browser
  met-kept e es b a h = by-if (λ (x : Browse). Kept x.pending) (expired (pos n) e) _ _
      (λ c. record { in-it = in-keep (λ f. not (same_seq e f)) b.pending (apart e (other e a c) b.pending) h.in-it; live = all_keep (alive_at n q) (λ f. not (same_seq e f)) b.pending h.live }) (λ c. h)

  drain_kept : (l : List Entry) (b : Browse) → Live l → Kept b.pending → Kept (drain_browser n l b).pending
  unfolding drain_browser close_browser
  drain_kept [] b a h = by-if (λ (x : Browse). Kept x.pending) (has_credit b.sub) _ b (λ c. by-if (λ (x : Browse). Kept x.pending) b.sub.finished b _ (λ d. h) (λ d. h)) (λ c. h)
  drain_kept (e ∷ es) b a h = by-if (λ (x : Browse). Kept x.pending) (has_credit b.sub) _ b
      (λ c. drain_kept es (meet_browser n e es b) (and_right (alive_at n q e) (all (alive_at n q) es) a) (met-kept e es b (and_left (alive_at n q e) (all (alive_at n q) es) a) h)) (λ c. h)

  browsers-kept : (l : List Sub) (p : List Entry) → Live (yet_to_show l) → Kept p → Kept (browsers n l p).pending
  unfolding browsers
  browsers-kept [] p a h = h
  browsers-kept (s ∷ l) p a h = browsers-kept l (browsed n p s).pending (all_right (alive_at n q) (snapshot s) (yet_to_show l) a)
      (by-if (λ (x : Browse). Kept x.pending) (is_browser s) (dispatch_browser n p s) _ (λ c. drain_kept (snapshot s) (record { sub = s; pending = p; counts = zero_stats; events = [] }) (all_left (alive_at n q) (snapshot s) (yet_to_show l) a) h) (λ c. h))

  -- ---- a dispatch

  -- q waits, and no copy of it that waits or is yet to be shown has expired
  record Ready (t : Dest) : Type 0 where
    waits : Kept t.pending
    shows : Live (yet_to_show t.subs)

  queue-has : (t : Dest) → Ready t → HasDest (dispatch_queue n t).dest
  unfolding dispatch_queue
  queue-has t h =
      let b = browsers n t.subs t.pending in
      let u = count b.counts (with_pending b.pending (with_subs b.subs t)) in
      let r = rounds (suc (length b.pending)) n u in
      let w = browsers-kept t.subs t.pending h.shows h.waits in
      by-if (λ (o : Out). HasDest o.dest) (empty t.subs) (record { dest = t; events = [] }) (record { dest = r.dest; events = b.events ++ r.events }) (λ c. has_in t.pending t.subs h.waits.in-it)
      (λ c. rounds-has (suc (length b.pending)) u (has_in b.pending b.subs w.in-it) w.live)

  by-has : (t : Dest) (k : Kind) → Ready t → HasDest (dispatch_by n t k).dest
  unfolding dispatch_by dispatch_topic
  by-has t topic h = has_in t.pending (serve_all n t.subs).subs h.waits.in-it
  by-has t queue h = queue-has t h

  dispatch-has : (now : ℕ) (t : Dest) → due now t ≡ n → Ready t → HasDest (dispatch now t).dest
  dispatch-has now t e h = subst⁻¹ (λ k. HasDest (dispatch_by k t t.kind).dest) e (by-has t t.kind h)

  same-ready : (t u : Dest) → u.pending ≡ t.pending → u.subs ≡ t.subs → Ready t → Ready u
  same-ready t u p s h = record {
    waits = record { in-it = ap (λ l. member q (seqs l)) p ∙ h.waits.in-it; live = ap (all (alive_at n q)) p ∙ h.waits.live };
    shows = ap (λ l. all (alive_at n q) (yet_to_show l)) s ∙ h.shows;
  }

  touch-ready : (now : ℕ) (t : Dest) → Ready t → Ready (touch_idle now t)
  touch-ready now t h = same-ready t (touch_idle now t) (touch-pending now t) (touch-subs now t) h

  map-shows : (f : Sub → Sub) (l : List Sub) → ((s : Sub) → snapshot (f s) ≡ snapshot s) → yet_to_show (map f l) ≡ yet_to_show l
  map-shows f [] g = refl
  map-shows f (s ∷ l) g = ap (λ m. m ++ yet_to_show (map f l)) (g s) ∙ ap (λ m. snapshot s ++ m) (map-shows f l g)

  put-shows : (p : Sub → Bool) (l : List Sub) (s v : Sub) → find p l ≡ some s → snapshot v ≡ snapshot s → yet_to_show (put p v l) ≡ yet_to_show l
  put-shows p [] s v f g = refl
  put-shows p (r ∷ l) s v f g = by-test (p r)
      (λ c. rw c (ap (λ m. m ++ yet_to_show l) (g ∙ ap snapshot (sym (some_inj (sym (if-true (some r) (find p l) c) ∙ f))))))
      (λ c. rw c (ap (λ m. snapshot r ++ m) (put-shows p l s v (sym (if-false (some r) (find p l) c) ∙ f) g)))

  put-ready : (j : Id) (s v : Sub) (t : Dest) → sub_of j t ≡ some s → snapshot v ≡ snapshot s → Ready t → Ready (put_sub j v t)
  put-ready j s v t f g h = record { waits = h.waits; shows = ap (all (alive_at n q)) (put-shows (is_id j) t.subs s v f g) ∙ h.shows }

  without-shows : (p : Sub → Bool) (l : List Sub) → Live (yet_to_show l) → Live (yet_to_show (without p l))
  without-shows p [] h = h
  without-shows p (s ∷ l) h = by-if (λ m. Live (yet_to_show m)) (p s) l (s ∷ without p l) (λ c. all_right (alive_at n q) (snapshot s) (yet_to_show l) h)
      (λ c. all_append (alive_at n q) (snapshot s) (yet_to_show (without p l)) (all_left (alive_at n q) (snapshot s) (yet_to_show l) h) (without-shows p l (all_right (alive_at n q) (snapshot s) (yet_to_show l) h)))

  back-shows : (es : List Entry) (s : Sub) → snapshot (hold_back_all es s) ≡ snapshot s
  back-shows [] s = refl
  back-shows (e ∷ es) s = back-shows es (hold_back e.seq s)

  reinsert-ready : (now : ℕ) (es : List Entry) (t : Dest) → due now t ≡ n → Ready t → Ready (reinsert now es t)
  unfolding reinsert
  reinsert-ready now es t e h = let live = keep (λ x. not (expired (pos (due now t)) x)) es in record {
    waits = record { in-it = in-insert_all live t.pending h.waits.in-it; live = live-insert_all live t.pending (subst⁻¹ (λ k. Live (keep (λ x. not (expired (pos k) x)) es)) e (live-kept es)) h.waits.live };
    shows = ap (all (alive_at n q)) (map-shows (hold_back_all live) t.subs (back-shows live)) ∙ h.shows;
  }

  -- ---- each call; the clock less the allowance is n

  due-same : (now : ℕ) (t u : Dest) → due now t ≡ n → u.allowance ≡ t.allowance → due now u ≡ n
  due-same now t u e h = ap (λ k. now - k) h ∙ e

  touch-stays : (now : ℕ) (t : Dest) → (touch_idle now t).allowance ≡ t.allowance
  unfolding touch_idle
  touch-stays now t = by-if (λ (u : Dest). u.allowance ≡ t.allowance) (empty t.pending && (empty t.subs && empty t.producers)) _ _ (λ c. refl) (λ c. refl)

  -- after a touch
  touched-has : (now : ℕ) (u : Dest) → due now u ≡ n → Ready u → HasDest (dispatch now (touch_idle now u)).dest
  touched-has now u e h = dispatch-has now (touch_idle now u) (due-same now u (touch_idle now u) e (touch-stays now u)) (touch-ready now u h)

  enqueue-has : (now : ℕ) (e : Entry) (t : Dest) (k : Kind) → due now t ≡ n → eqb q e.seq ≡ false → Ready t → HasDest (enqueue_by now e t k).dest
  unfolding enqueue_by dispatch_topic
  enqueue-has now e t topic d f h = has_in t.pending (serve_all (due now t) (fanned_out (due now t) e t).subs).subs h.waits.in-it
  enqueue-has now e t queue d f h = subst⁻¹ (λ k. HasDest (dispatch_queue k (stored e t)).dest) d (queue-has (stored e t) (record {
    waits = record { in-it = in_insert e t.pending h.waits.in-it; live = live-insert e t.pending (rw f) h.waits.live };
    shows = ap (all (alive_at n q)) (map-shows (hold_back e.seq) t.subs (λ s. refl)) ∙ h.shows;
  }))

  joined-stays : (now : ℕ) (p : Spec) (t : Dest) → (joined now p t).allowance ≡ t.allowance
  joined-stays now p t = by-if (λ (u : Dest). u.allowance ≡ t.allowance) p.browser _ _ (λ c. refl) (λ c. refl)

  shows-end : (l : List Sub) (v : Sub) → Live (yet_to_show l) → Live (snapshot v) → Live (yet_to_show (l ++ v ∷ []))
  shows-end [] v h g = all_append (alive_at n q) (snapshot v) [] g refl
  shows-end (s ∷ l) v h g = all_append (alive_at n q) (snapshot s) (yet_to_show (l ++ v ∷ [])) (all_left (alive_at n q) (snapshot s) (yet_to_show l) h) (shows-end l v (all_right (alive_at n q) (snapshot s) (yet_to_show l) h) g)

  joined-ready : (now : ℕ) (p : Spec) (t : Dest) → due now t ≡ n → Ready t → Ready (joined now p t)
  joined-ready now p t d h =
      let live = keep (λ e. not (expired (pos (due now t)) e)) t.pending in
      let chosen = keep (λ e. selects e.match_word p.selector) live in
      let alive : Live live = all_keep (alive_at n q) (λ e. not (expired (pos (due now t)) e)) t.pending h.waits.live in
      by-if (λ (u : Dest). Ready (with_idle none u)) p.browser _ _
      (λ c. record {
        waits = record { in-it = subst⁻¹ (λ k. In (keep (λ e. not (expired (pos k) e)) t.pending)) d (in-keep (λ e. not (expired (pos n) e)) t.pending h.waits.live h.waits.in-it); live = alive };
        shows = shows-end t.subs (new_sub p (some chosen)) h.shows (all_keep (alive_at n q) (λ e. selects e.match_word p.selector) live alive);
      })
      (λ c. record { waits = h.waits; shows = shows-end t.subs (new_sub p none) h.shows refl })

  returning-ready : (now : ℕ) (s : Sub) (last : ℤ) (t : Dest) (k : Kind) → due now t ≡ n → Ready t → Ready (returning now s last t k)
  unfolding returning
  returning-ready now s last t topic d h = h
  returning-ready now s last t queue d h = by-if Ready (is_browser s) t _ (λ c. h) (λ c. reinsert-ready now (returned_from last s.inflight) (with_reserved (t.reserved ++ reserved_from s.id s.inflight) t) d (record { waits = h.waits; shows = h.shows }))

  returning-stays : (now : ℕ) (s : Sub) (last : ℤ) (t : Dest) (k : Kind) → (returning now s last t k).allowance ≡ t.allowance
  unfolding returning reinsert
  returning-stays now s last t topic = refl
  returning-stays now s last t queue = by-if (λ (u : Dest). u.allowance ≡ t.allowance) (is_browser s) t _ (λ c. refl) (λ c. refl)

  remove-has : (now : ℕ) (j : Id) (last : ℤ) (t : Dest) (o : Option Sub) → due now t ≡ n → Ready t → HasDest (remove_at now j last t o).dest
  unfolding remove_at
  remove-has now j last t none d h = has_in t.pending t.subs h.waits.in-it
  remove-has now j last t (some s) d h =
      let u = returning now s last (drop_sub j t) t.kind in
      touched-has now u (due-same now t u d (returning-stays now s last (drop_sub j t) t.kind)) (returning-ready now s last (drop_sub j t) t.kind d (record { waits = h.waits; shows = without-shows (is_id j) t.subs h.shows }))

  release-has : (now : ℕ) (j : Id) (t : Dest) → due now t ≡ n → Ready t → HasDest (return_reserved now j t).dest
  unfolding return_reserved reinsert
  release-has now j t d h =
      let u = with_reserved (keep (λ h. not (held_by j h)) t.reserved) t in
      let es = map redelivered (reserved_of j t) in
      by-if (λ (r : Out). HasDest r.dest) (empty (reserved_of j t)) (record { dest = t; events = [] }) (dispatch now (reinsert now es u)) (λ c. has_in t.pending t.subs h.waits.in-it)
      (λ c. dispatch-has now (reinsert now es u) d (reinsert-ready now es u d (record { waits = h.waits; shows = h.shows })))

  -- the first to go has expired
  soonest-expired : (l : List Entry) → Live l → (o : Option Entry) → soonest n l ≡ o → (e : Entry) → o ≡ some e → eqb q e.seq ≡ false
  soonest-expired [] a o f e g = absurd (none-some (f ∙ g))
  soonest-expired (x ∷ l) a o f e g = by-test (expired (pos n) x)
      (λ c. pick (soonest n l) refl (sym (if-true (sooner x (soonest n l)) (soonest n l) c) ∙ f ∙ g) (other x low c) (λ y z. soonest-expired l rest (soonest n l) refl y z))
      (λ c. soonest-expired l rest (soonest n l) refl e (sym (if-false (sooner x (soonest n l)) (soonest n l) c) ∙ f ∙ g))
    where
      low : alive_at n q x ≡ true
      low = and_left (alive_at n q x) (all (alive_at n q) l) a

      rest : Live l
      rest = and_right (alive_at n q x) (all (alive_at n q) l) a

      pick : (m : Option Entry) → soonest n l ≡ m → sooner x m ≡ some e → eqb q x.seq ≡ false → ((y : Entry) → m ≡ some y → eqb q y.seq ≡ false) → eqb q e.seq ≡ false
      pick none k r u v = ap (λ (y : Entry). eqb q y.seq) (sym (some_inj r)) ∙ u
      pick (some y) k r u v = by-test (is_sooner x y)
          (λ c. ap (λ (y : Entry). eqb q y.seq) (sym (some_inj (sym (if-true (some x) (some y) c) ∙ r))) ∙ u)
          (λ c. ap (λ (y : Entry). eqb q y.seq) (sym (some_inj (sym (if-false (some x) (some y) c) ∙ r))) ∙ v y refl)

  sweep-in : (budget : ℕ) (l : List Entry) → In l → Live l → In (sweep_list budget n l).list
  unfolding sweep_list sweep_at
  sweep-in zero l h a = h
  sweep-in (suc budget) l h a = go (soonest n l) refl (λ e f. sweep-in budget (keep (λ x. not (eqb x.seq e.seq)) l) (in-keep (λ x. not (eqb x.seq e.seq)) l (apart-too e (soonest-expired l a (soonest n l) refl e f) l) h) (all_keep (alive_at n q) (λ x. not (eqb x.seq e.seq)) l a))
    where
      go : (o : Option Entry) → soonest n l ≡ o → ((e : Entry) → o ≡ some e → In (sweep_list budget n (keep (λ x. not (eqb x.seq e.seq)) l)).list) → In (sweep_at l (λ e. sweep_list budget n (keep (λ x. not (eqb x.seq e.seq)) l)) o).list
      go none f later = h
      go (some e) f later = later e refl

  sweep-has : (now most : ℕ) (t : Dest) → due now t ≡ n → Ready t → HasDest (sweep_expired now most t).dest
  unfolding sweep_expired
  sweep-has now most t d h =
      let w = sweep_list most (due now t) t.pending in
      let r = sweep_subs (most - w.gone) (due now t) t.subs in
      let swept = count (add_expired (w.gone + r.gone)) (with_pending w.list (with_subs r.subs t)) in
      let i : In w.list = subst⁻¹ (λ k. In (sweep_list most k t.pending).list) d (sweep-in most t.pending h.waits.in-it h.waits.live) in
      by-if (λ (a : Answer). HasDest a.dest) (ltb 0 (w.gone + r.gone)) (record { answer = w.gone + r.gone; dest = touch_idle now swept; events = [] }) (record { answer = 0; dest = swept; events = [] })
      (λ c. has_in (touch_idle now swept).pending (touch_idle now swept).subs (ap (λ l. member q (seqs l)) (touch-pending now swept) ∙ i)) (λ c. has_in w.list r.subs i)

  ack-has : (now : ℕ) (j : Id) (a : Ack) (t : Dest) (o : Option Sub) → sound t ≡ true → sub_of j t ≡ o → due now t ≡ n → Ready t → HasDest (ack_at now j a t o).dest
  unfolding ack_at ack_reserved
  ack-has now j a t none s f d h = by-if (λ (r : Out). HasDest r.dest) (a.transacted || empty (reserved_of j t)) (record { dest = t; events = [] }) _ (λ c. has_in t.pending t.subs h.waits.in-it) (λ c. reserved a.last)
    where
      reserved : (o : Option ℕ) → HasDest (dispatch now (touch_idle now (ack_reserved j a t o).dest)).dest
      reserved none = touched-has now t d h
      reserved (some last) = touched-has now (ack_reserved j a t (some last)).dest d (record { waits = h.waits; shows = h.shows })
  ack-has now j a t (some s) z f d h =
      let k = ack_sub a s in
      let m = fit t.kind t.calls_used s (find-all (is_id j) (sub_sound t.kind t.calls_used) t.subs s f (facts t z).consumers) in
      let r = put-ready j s k.sub t f (ack-acked t.kind a s m.0).shown h in
      touched-has now (count k.counts (put_sub j k.sub t)) d (record { waits = r.waits; shows = r.shows })

  -- what a null leaves of a consumer is in flight as before
  null-taken : (p : Sub → Bool) (l : List Sub) (s : Sub) → find p l ≡ some s → taken (put p (send_null s) l) ≡ taken l
  unfolding is_browser
  null-taken p [] s f = refl
  null-taken p (r ∷ l) s f = by-test (p r)
      (λ c. rw c (ap (λ (x : Sub). own x ++ taken l) (sym (some_inj (sym (if-true (some r) (find p l) c) ∙ f)))))
      (λ c. rw c (ap (λ m. own r ++ m) (null-taken p l s (sym (if-false (some r) (find p l) c) ∙ f))))

  null_has : (j : Id) (s : Sub) (t : Dest) → sub_of j t ≡ some s → HasDest t → HasDest (put_sub j (send_null s) t)
  null_has j s t f h g = ap (λ l. member q (seqs l)) (null-taken (is_id j) t.subs s f) ∙ h g

  pulled-has : (j : Id) (timeout : ℤ) (s : Sub) (r : Out) (o : Option ℕ) → sub_of j r.dest ≡ some s → HasDest r.dest → HasDest (pulled j timeout s r o).dest
  unfolding pulled
  pulled-has j timeout s r none f h = h
  pulled-has j timeout s r (some x) f h = by-if (λ (a : Answer). HasDest a.dest) (lt_z timeout (pos 0)) _ _ (λ c. null_has j s r.dest f h) (λ c. by-if (λ (a : Answer). HasDest a.dest) (lt_z (pos 0) timeout) _ _ (λ d. h) (λ d. h))

  resumed-has : (j : Id) (timeout : ℤ) (r : Out) (o : Option Sub) → sub_of j r.dest ≡ o → HasDest r.dest → HasDest (resumed j timeout r o).dest
  unfolding resumed
  resumed-has j timeout r none f h = h
  resumed-has j timeout r (some s) f h = pulled-has j timeout s r s.pull f h

  pull-has : (now : ℕ) (j : Id) (timeout : ℤ) (t : Dest) (o : Option Sub) → sub_of j t ≡ o → due now t ≡ n → Ready t → HasDest (pull_at now j timeout t o).dest
  unfolding pull_at
  pull-has now j timeout t none f d h = has_in t.pending t.subs h.waits.in-it
  pull-has now j timeout t (some s) f d h =
      let v = with_pull (some (s.generation + 1)) (with_generation (s.generation + 1) s) in
      let u = put_sub j v t in
      let r = dispatch now u in
      by-if (λ (a : Answer). HasDest a.dest) (ltb 0 s.prefetch) (record { answer = 0; dest = t; events = [] }) (resumed j timeout r (sub_of j r.dest)) (λ c. has_in t.pending t.subs h.waits.in-it)
      (λ c. resumed-has j timeout r (sub_of j r.dest) refl (dispatch-has now u d (put-ready j s v t f refl h)))

  fired-in : (j : Id) (generation : ℕ) (s : Sub) (t : Dest) (o : Option ℕ) → In t.pending → In (fired j generation s t o).dest.pending
  unfolding fired
  fired-in j generation s t none h = h
  fired-in j generation s t (some x) h = by-if (λ (r : Out). In r.dest.pending) (eqb x generation) _ _ (λ c. h) (λ c. h)

  timeout-in : (j : Id) (generation : ℕ) (t : Dest) (o : Option Sub) → In t.pending → In (timeout_at j generation t o).dest.pending
  unfolding timeout_at
  timeout-in j generation t none h = h
  timeout-in j generation t (some s) h = fired-in j generation s t s.pull h

  prefetch-has : (now : ℕ) (j : Id) (p : ℤ) (t : Dest) (o : Option Sub) → sub_of j t ≡ o → due now t ≡ n → Ready t → HasDest (dispatch now (prefetch_at j p t o)).dest
  prefetch-has now j p t none f d h = dispatch-has now t d h
  prefetch-has now j p t (some s) f d h = dispatch-has now (put_sub j (with_prefetch (room p) s) t) d (put-ready j s (with_prefetch (room p) s) t f refl h)

  ask-has : (j : Id) (t : Dest) (r : Request) → sound t ≡ true → due (asked_at r) t ≡ n → Ready t → HasDest (ask j t r).dest
  unfolding ask ack pull pull_timeout set_prefetch
  ask-has j t (acknowledge a now) s d h = ack-has now j a t (sub_of j t) s refl d h
  ask-has j t (pulling timeout now) s d h = pull-has now j timeout t (sub_of j t) refl d h
  ask-has j t (timed_out generation) s d h = has_in (timeout_at j generation t (sub_of j t)).dest.pending (timeout_at j generation t (sub_of j t)).dest.subs (timeout-in j generation t (sub_of j t) h.waits.in-it)
  ask-has j t (prefetching p now) s d h = prefetch-has now j p t (sub_of j t) refl d h

  test_in : (j : Id) (k : ℕ) (t : Dest) (o : Option Audit) → In t.pending → In (test_at j k t o).dest.pending
  unfolding test_at
  test_in j k t none h = h
  test_in j k t (some a) h = by-if (λ (r : Answer). In r.dest.pending) (seen k a.order) _ _ (λ c. h) (λ c. h)

  -- an enqueue that 4 does not refuse has another number
  new-number : (e : Entry) (now : ℕ) (t : Dest) → own_refusal t (enqueuing e now) ≡ 0 → In t.pending → eqb q e.seq ≡ false
  unfolding own_refusal
  new-number e now t f h = by-test (eqb q e.seq)
      (λ c. absurd (no-4 (member e.seq (seqs (all_rows t))) _ f (ap (λ k. member k (seqs (all_rows t))) (sym (eqb-true q e.seq c)) ∙ in_left t.pending (held t ++ consumer_rows t.subs) h)))
      (λ c. c)
    where
      no-4 : (b : Bool) (m : ℕ) → (whether b then 4 else m) ≡ 0 → b ≡ true → ⊥
      no-4 true m f g = omega (arith, f)
      no-4 false m f g = true≢false (sym g)

  perform-has : (t : Dest) (c : Call) → sound t ≡ true → own_refusal t c ≡ 0 → (c ≡ clearing → ⊥) → due (call_clock c) t ≡ n → Ready t → HasDest (perform t c).dest
  unfolding perform add_sub remove_sub is_duplicate
  perform-has t (enqueuing e now) s f x d h = enqueue-has now e t t.kind d (new-number e now t f h.waits.in-it) h
  perform-has t (joining p now) s f x d h = dispatch-has now (joined now p t) (due-same now t (joined now p t) d (joined-stays now p t)) (joined-ready now p t d h)
  perform-has t (leaving j last now) s f x d h = remove-has now j last t (sub_of j t) d h
  perform-has t (asking j r) s f x d h = ask-has j t r s d h
  perform-has t (unmarking j) s f x d h = has_in t.pending (unmarked j t).subs h.waits.in-it
  perform-has t (releasing j now) s f x d h = release-has now j t d h
  perform-has t (sweeping now most) s f x d h = sweep-has now most t d h
  perform-has t clearing s f x d h = absurd (x refl)
  perform-has t (adding j) s f x d h = has_in t.pending t.subs h.waits.in-it
  perform-has t (removing j now) s f x d h = touched (removed j t) h.waits.in-it
    where
      removed : Id → Dest → Dest
      removed j t = with_audits (keep (λ a. not (audit_of j a)) t.audits) (with_producers (keep (λ k. not (same_id k j)) t.producers) t)

      touched : (u : Dest) → In u.pending → HasDest (touch_idle now u)
      touched u i = has_in (touch_idle now u).pending (touch_idle now u).subs (ap (λ l. member q (seqs l)) (touch-pending now u) ∙ i)
  perform-has t (testing j k) s f x d h = by-if (λ (r : Answer). HasDest r.dest) (eqb j.conn 0) _ _ (λ c. has_in t.pending t.subs h.waits.in-it)
      (λ c. has_in (test_at j k t (find (audit_of j) t.audits)).dest.pending (test_at j k t (find (audit_of j) t.audits)).dest.subs (test_in j k t (find (audit_of j) t.audits) h.waits.in-it))
  perform-has t (forgetting conn) s f x d h = has_in t.pending t.subs h.waits.in-it
  perform-has t discarding s f x d h = has_in t.pending t.subs h.waits.in-it
  perform-has t missing s f x d h = has_in t.pending t.subs h.waits.in-it

pub waits-on : WaitsOn
unfolding call
waits-on lent c t q r x h a =
    let y = accepted lent c t (call-accepted lent c t r) in
    let n = due (call_clock c) t in
    rw (call-accepted lent c t r) (perform-has n q t c y.is-sound y.own x refl (record { waits = record { in-it = h; live = all_left (alive_at n q) t.pending (yet_to_show t.subs) a }; shows = all_right (alive_at n q) t.pending (yet_to_show t.subs) a }))
