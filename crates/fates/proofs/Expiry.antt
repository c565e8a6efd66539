-- What leaves as expired, but for an acknowledgement's own removals, was expired at its call's clock. Assumes nothing.
use Prim.Native.Nat.{ℕ, ◌+◌, ◌-◌, ◌≤◌}
use native.Mathlib.Omega.{arith}
use mathlib.Core.Path.{◌≡◌, refl, sym, ◌∙◌, ap, subst⁻¹}
use mathlib.Core.Bool.{true, not, ◌||◌}
use mathlib.Core.List.{List, [], ◌∷◌, ◌++◌, map}
use mathlib.Core.Option.{Option, none, some}
use lib.Dec.{ltb, eqb}
use lib.IntN.{ℤ, pos}
use lib.Signed.{lt_z}
use borrow.Author.Tests.{eqb-true, eq-eqb}
use Rattle.audit.specs.Audit.{seen}
use Rattle.definition.specs.Base.{whether◌then◌else◌, keep, tally, find, empty, all}
use Rattle.definition.specs.Types.{Kind, queue, topic, Id, Entry, Sub, Audit, Dest, with_prefetch, with_pending, with_subs, with_idle, with_reserved}
use Rattle.definition.specs.Consumer.{add_expired, selects, is_browser, snapshot, send_null, same_seq, redelivered, Ack, ack_sub}
use Rattle.definition.specs.Consumer as Consumer
use Rattle.definition.specs.Destination.{Out, Answer, count, is_id, sub_of, put_sub, touch_idle, due, dispatch, hold_back, hold_back_all, stored, enqueue_by, Spec, new_sub, joined, add_sub, room, prefetch_at, set_prefetch, reinsert, held_by, reserved_of, ack_reserved, ack_at, ack, pull, pull_at, pulled, resumed, fired, timeout_at, pull_timeout, returned_from, reserved_from, returning, drop_sub, remove_at, remove_sub, no_tx, unmarked, return_reserved, sweep_list, sweep_subs, sweep_expired, clear, audit_of, test_at, is_duplicate}
use Rattle.definition.specs.Calls.{flying, Lengths, acknowledge, pulling, timed_out, prefetching, Call, enqueuing, joining, leaving, asking, unmarking, releasing, sweeping, clearing, adding, removing, testing, forgetting, discarding, missing, arguments_ok, own_refusal, ask, perform, call, Result, brought}
use Rattle.definition.proofs.Tests.{by-test, by-if, and_both}
use Rattle.definition.proofs.Lists.{All, all-part}
use Rattle.definition.proofs.Sums.{sum, occ, sum-append, occ-yes}
use Rattle.definition.proofs.Whole.{sums, rows_m, count_m, queue_sum, rows_sum, Fine, all_map}
use Rattle.definition.proofs.Own.{pulling-sub}
use Rattle.definition.proofs.Reach.{back-all}
use Rattle.definition.proofs.Kept.{accepted, stores}
use Rattle.definition.proofs.Made.{call-accepted}
use Rattle.fates.proofs.Measures.{Steady, occ-steady, only}
use Rattle.fates.proofs.Dispatch.{alive}
use Rattle.fates.proofs.Parts.{touched, null-same, pulling-same, prefetch-same, stored-expires, joined-expires, put-expires, returning-expires, unmarked-expires, released-expires}
use Rattle.fates.proofs.Sweeps.{sweep-expires}
use Rattle.fates.proofs.Acks.{present-acked, absent-acked}
use Rattle.fates.proofs.Calls.{decode-coded, Ready, prefetch-kind, returning-kind, joined-kind, reserved-kind}
use Rattle.fates.proofs.Copies.{Snaps, snaps-where, snaps-put, snaps-map, snaps-without, snaps-more, snaps-swept, snaps-cleared, ack-snap, Agrees, Agree, copy-steady, agrees-less, agree_less, agree-part, agree-seen, agree-queue, agree-dispatch, agree-touched, agrees-mine, in_itself}
use Rattle.fates.proofs.Steps.{hasty}
use Rattle.fates.proofs.Run.{kept, leavers-sum, opened-is, call-made, fine-queue, called, moved, still-once, hasty-steady}
use Rattle.fates.specs.Fates.{expired, same_fate, Departure, means, removal, fate_by, leavers, departing}
use Rattle.fates.specs.Account.{Account, opening, calling, clock_reading, truly, ExpiredHadExpired}

-- ---- enqueue

-- no copy has the number of an entry in no row
strange : (x : ℕ) (l : List Entry) → sum (occ x) l ≤ 0 → All (λ k. occ x k ≡ 0) l
strange x [] h = tt
strange x (k ∷ l) h = (omega arith, strange x l (omega arith))

row-strange : (x : ℕ) (s : Sub) → rows_m (occ x) s ≤ 0 → All (λ k. occ x k ≡ 0) (snapshot s)
unfolding rows_m
row-strange x s h = strange x (snapshot s) (omega (arith, sum-append (occ x) (flying s) (s.tpending ++ snapshot s), sum-append (occ x) s.tpending (snapshot s)))

all-strange : (x : ℕ) (l : List Sub) → sums (rows_m (occ x)) l ≤ 0 → Snaps (λ k. occ x k ≡ 0) l
all-strange x [] h = tt
all-strange x (s ∷ l) h = (row-strange x s (omega arith), all-strange x l (omega arith))

snaps-both : (P Q : Entry → Type 0) (l : List Sub) → Snaps P l → Snaps Q l → Snaps (λ k. P k × Q k) l
snaps-both P Q [] a b = tt
snaps-both P Q (s ∷ l) a b = (pair (snapshot s) a.0 b.0, snaps-both P Q l a.1 b.1)
  where
    pair : (m : List Entry) → All P m → All Q m → All (λ k. P k × Q k) m
    pair [] h g = tt
    pair (k ∷ m) h g = ((h.0, g.0), pair m h.1 g.1)

other-number : (k e : Entry) (now : ℕ) → occ e.seq k ≡ 0 → only (same_seq k) (alive now) e ≡ 0
other-number k e now h = by-test (same_seq k e)
    (λ c. absurd (omega (arith, h, occ-yes e.seq k (eq-eqb e.seq k.seq (sym (eqb-true k.seq e.seq c))))))
    (λ c. rw c)

stored-agree : (e : Entry) (t : Dest) → rows_sum (occ e.seq) t ≤ 0 → Agree t → Agree (stored e t)
stored-agree e t z a = snaps-map (Agrees (stored e t)) (hold_back e.seq) t.subs (λ s. refl)
    (snaps-where (λ k. Agrees t k × (occ e.seq k ≡ 0)) (Agrees (stored e t)) t.subs
    (λ k h now x. omega (arith, h.0 now x, other-number k e now h.1, (stored-expires (Unit {0}) now e t (omega arith)).sums (only (same_seq k) (alive now)) (copy-steady k now)))
    (snaps-both (Agrees t) (λ k. occ e.seq k ≡ 0) t.subs a (all-strange e.seq t.subs (omega arith))))

-- ---- join

joined-agree : (now : ℕ) (p : Spec) (t : Dest) → ((x : ℕ) → queue_sum (occ x) t ≤ 1) → Agree t → Agree (joined now p t)
joined-agree now p t o a = by-if (λ (u : Dest). ((f : Entry → ℕ) → Steady f → queue_sum f u ≤ queue_sum f t) → Agree (with_idle none u)) p.browser browsed plain
    (λ c h. snaps-more (Agrees browsed) t.subs (new_sub p (some shows)) (old browsed h)
    (all-part (Agrees browsed) (λ e. selects e.match_word p.selector) live (all_map (λ k. (f : Entry → ℕ) → f k ≤ sum f live) (Agrees browsed) live (λ k. agrees-mine browsed k (λ x. omega (arith, o x, h (occ x) (occ-steady x)))) (in_itself live))))
    (λ c h. snaps-more (Agrees plain) t.subs (new_sub p none) (old plain h) tt)
    (λ f w. omega (arith, (joined-expires (Unit {0}) now p t).sums f w))
  where
    live : List Entry
    live = keep (λ e. not (Consumer.expired (pos (due now t)) e)) t.pending

    shows : List Entry
    shows = keep (λ e. selects e.match_word p.selector) live

    browsed : Dest
    browsed = with_subs (t.subs ++ new_sub p (some shows) ∷ []) (count (add_expired (tally (Consumer.expired (pos (due now t))) t.pending)) (with_pending live t))

    plain : Dest
    plain = with_subs (t.subs ++ new_sub p none ∷ []) t

    old : (u : Dest) → ((f : Entry → ℕ) → Steady f → queue_sum f u ≤ queue_sum f t) → Snaps (Agrees u) t.subs
    old u h = snaps-where (Agrees t) (Agrees u) t.subs (agrees-less t u h) a

-- ---- entries that return

back-snap : (l : List Entry) (s : Sub) → snapshot (hold_back_all l s) ≡ snapshot s
back-snap l s = let r = back-all l s in ap snapshot r.2

reinsert-snaps : (P : Entry → Type 0) (now : ℕ) (es : List Entry) (d : Dest) → Snaps P d.subs → Snaps P (reinsert now es d).subs
unfolding reinsert
reinsert-snaps P now es d a = snaps-map P (hold_back_all (keep (λ e. not (Consumer.expired (pos (due now d)) e)) es)) d.subs (back-snap (keep (λ e. not (Consumer.expired (pos (due now d)) e)) es)) a

returning-snaps : (P : Entry → Type 0) (now : ℕ) (i : Id) (s : Sub) (last : ℤ) (t : Dest) (k : Kind) → Snaps P t.subs → Snaps P (returning now s last (drop_sub i t) k).subs
unfolding returning
returning-snaps P now i s last t topic a = snaps-without P (is_id i) t.subs a
returning-snaps P now i s last t queue a = by-if (λ (u : Dest). Snaps P u.subs) (is_browser s) (drop_sub i t) _
    (λ c. snaps-without P (is_id i) t.subs a)
    (λ c. reinsert-snaps P now (returned_from last s.inflight) (with_reserved (t.reserved ++ reserved_from s.id s.inflight) (drop_sub i t)) (snaps-without P (is_id i) t.subs a))

unmarked-snaps : (P : Entry → Type 0) (i : Id) (t : Dest) → Snaps P t.subs → Snaps P (unmarked i t).subs
unmarked-snaps P i t a = snaps-map P (λ s. whether is_id i s then no_tx s else s) t.subs (λ s. by-if (λ (v : Sub). snapshot v ≡ snapshot s) (is_id i s) (no_tx s) s (λ c. refl) (λ c. refl)) a

-- ---- each call

-- the copies agree before each dispatch of the call, and after it
record Right (t : Dest) (c : Call) : Type 0 where
  ready : Ready t c
  after : Agree (perform t c).dest

module _ (t : Dest) (k : t.kind ≡ queue) (o : (x : ℕ) → queue_sum (occ x) t ≤ 1) (a : Agree t) where
  -- a consumer's own step
  stepped : (i : Id) (s v : Sub) → sub_of i t ≡ some s → snapshot v ≡ snapshot s → ((f : Entry → ℕ) → count_m f v ≡ count_m f s) → Agree (put_sub i v t)
  stepped i s v f e h = agree-part t (put_sub i v t) (put-expires (Unit {0}) 0 i s v t f h) (λ P b. snaps-put P (is_id i) t.subs s v f e b) a

  back : (now : ℕ) (i : Id) (last : ℤ) (s : Sub) → sub_of i t ≡ some s → Agree (returning now s last (drop_sub i t) t.kind)
  back now i last s f = agree-part t _ (returning-expires (Unit {0}) now i last s t t.kind k o f) (λ P b. returning-snaps P now i s last t t.kind b) a

  left-agree : (now : ℕ) (i : Id) (last : ℤ) (s : Option Sub) → sub_of i t ≡ s → Agree (remove_at now i last t s).dest
  unfolding remove_at
  left-agree now i last none e = a
  left-agree now i last (some s) e = agree-touched now _ (returning-kind t k o now s last (drop_sub i t) t.kind k) (back now i last s e)

  -- acknowledgements
  taken-agree : (i : Id) (b : Ack) (s : Sub) → sub_of i t ≡ some s → Agree (put_sub i (ack_sub b s).sub t)
  taken-agree i b s e = agree_less t (put_sub i (ack_sub b s).sub t) (λ f w. omega (arith, (present-acked i b s t e).sums f w)) (λ P h. snaps-put P (is_id i) t.subs s (ack_sub b s).sub e (ack-snap b s) h) a

  reserved-snaps : (P : Entry → Type 0) (i : Id) (b : Ack) (l : Option ℕ) → Snaps P t.subs → Snaps P (ack_reserved i b t l).dest.subs
  unfolding ack_reserved
  reserved-snaps P i b none h = h
  reserved-snaps P i b (some last) h = h

  acked-agree : (now : ℕ) (i : Id) (b : Ack) (s : Option Sub) → sub_of i t ≡ s → Agree (ack_at now i b t s).dest
  unfolding ack_at
  acked-agree now i b none e = by-if (λ (r : Out). Agree r.dest) (b.transacted || empty (reserved_of i t)) _ _
      (λ c. a)
      (λ c. agree-touched now (ack_reserved i b t b.last).dest (reserved-kind t k o i b b.last) (agree_less t (ack_reserved i b t b.last).dest (λ f w. omega (arith, (absent-acked i b t b.last).sums f w)) (λ P h. reserved-snaps P i b b.last h) a))
  acked-agree now i b (some s) e = agree-touched now (count (ack_sub b s).counts (put_sub i (ack_sub b s).sub t)) k (taken-agree i b s e)

  -- pulls
  fired-agree : (i : Id) (generation : ℕ) (s : Sub) (g : Option ℕ) → sub_of i t ≡ some s → Agree (fired i generation s t g).dest
  unfolding fired
  fired-agree i generation s none e = a
  fired-agree i generation s (some x) e = by-if (λ (r : Out). Agree r.dest) (eqb x generation) _ _ (λ c. stepped i s (send_null s) e refl (λ f. null-same f s)) (λ c. a)

  timeout-agree : (i : Id) (generation : ℕ) (s : Option Sub) → sub_of i t ≡ s → Agree (timeout_at i generation t s).dest
  unfolding timeout_at
  timeout-agree i generation none e = a
  timeout-agree i generation (some s) e = fired-agree i generation s s.pull e

  prefetch-agree : (i : Id) (p : ℤ) (s : Option Sub) → sub_of i t ≡ s → Agree (prefetch_at i p t s)
  prefetch-agree i p none e = a
  prefetch-agree i p (some s) e = stepped i s (with_prefetch (room p) s) e refl (λ f. prefetch-same f (room p) s)

  registered : (i : Id) (s : Sub) → sub_of i t ≡ some s → Agree (put_sub i (pulling-sub s) t)
  registered i s e = stepped i s (pulling-sub s) e refl (λ f. pulling-same f s)

  -- release
  released-agree : (now : ℕ) (i : Id) → Agree (reinsert now (map redelivered (reserved_of i t)) (with_reserved (keep (λ h. not (held_by i h)) t.reserved) t))
  released-agree now i = agree-part t _ (released-expires (Unit {0}) now i t o) (λ P h. reinsert-snaps P now (map redelivered (reserved_of i t)) (with_reserved (keep (λ h. not (held_by i h)) t.reserved) t) h) a

  release-agree : (now : ℕ) (i : Id) → Agree (return_reserved now i t).dest
  unfolding return_reserved reinsert
  release-agree now i = by-if (λ (r : Out). Agree r.dest) (empty (reserved_of i t)) _ _
      (λ c. a)
      (λ c. agree-dispatch now (reinsert now (map redelivered (reserved_of i t)) (with_reserved (keep (λ h. not (held_by i h)) t.reserved) t)) k (released-agree now i))

  swept-snaps : (P : Entry → Type 0) (now most : ℕ) → Snaps P t.subs → Snaps P (sweep_expired now most t).dest.subs
  unfolding sweep_expired
  swept-snaps P now most h = by-if (λ (r : Answer). Snaps P r.dest.subs) (ltb 0 many) (record { answer = many; dest = touch_idle now swept; events = [] }) (record { answer = 0; dest = swept; events = [] })
      (λ c. touched (λ (u : Dest). Snaps P u.subs) now swept (λ i. snaps-swept P left (due now t) t.subs h))
      (λ c. snaps-swept P left (due now t) t.subs h)
    where
      left : ℕ
      left = most - (sweep_list most (due now t) t.pending).gone

      many : ℕ
      many = (sweep_list most (due now t) t.pending).gone + (sweep_subs left (due now t) t.subs).gone

      swept : Dest
      swept = count (add_expired many) (with_pending (sweep_list most (due now t) t.pending).list (with_subs (sweep_subs left (due now t) t.subs).subs t))

  tested_agree : (i : Id) (q : ℕ) (s : Option Audit) → Agree (test_at i q t s).dest
  unfolding test_at
  tested_agree i q none = a
  tested_agree i q (some x) = by-if (λ (r : Answer). Agree r.dest) (seen q x.order) _ _ (λ c. a) (λ c. a)

-- after the dispatch of a pull
pulled-agree : (i : Id) (timeout : ℤ) (s : Sub) (r : Out) (g : Option ℕ) → sub_of i r.dest ≡ some s → Agree r.dest → Agree (pulled i timeout s r g).dest
unfolding pulled
pulled-agree i timeout s r none e a = a
pulled-agree i timeout s r (some x) e a = by-if (λ (y : Answer). Agree y.dest) (lt_z timeout (pos 0)) _ _
    (λ c. agree-part r.dest (put_sub i (send_null s) r.dest) (put-expires (Unit {0}) 0 i s (send_null s) r.dest e (λ f. null-same f s)) (λ P b. snaps-put P (is_id i) r.dest.subs s (send_null s) e refl b) a)
    (λ c. by-if (λ (y : Answer). Agree y.dest) (lt_z (pos 0) timeout) _ _ (λ d. a) (λ d. a))

resumed-agree : (i : Id) (timeout : ℤ) (r : Out) (s : Option Sub) → sub_of i r.dest ≡ s → Agree r.dest → Agree (resumed i timeout r s).dest
unfolding resumed
resumed-agree i timeout r none e a = a
resumed-agree i timeout r (some s) e a = pulled-agree i timeout s r s.pull e a

pull-agree : (now : ℕ) (i : Id) (timeout : ℤ) (t : Dest) (s : Option Sub) → t.kind ≡ queue → ((x : ℕ) → queue_sum (occ x) t ≤ 1) → sub_of i t ≡ s → Agree t → Agree (pull_at now i timeout t s).dest
unfolding pull_at
pull-agree now i timeout t none k o e a = a
pull-agree now i timeout t (some s) k o e a = by-if (λ (r : Answer). Agree r.dest) (ltb 0 s.prefetch) _ _
    (λ c. a)
    (λ c. resumed-agree i timeout (dispatch now (put_sub i (pulling-sub s) t)) _ refl (agree-dispatch now (put_sub i (pulling-sub s) t) k (registered t k o a i s e)))

perform-right : (L U N : ℕ) (c : Call) (t : Dest) → Fine L U queue N t → arguments_ok c ≡ true → own_refusal t c ≡ 0 → Agree t → Right t c
unfolding perform ask add_sub set_prefetch ack pull pull_timeout remove_sub is_duplicate enqueue_by clear
perform-right L U N (enqueuing e now) t g r w a =
    let y = stores L U queue N e now t g r w in
    let v = stored-agree e t y.new a in
    record { ready = agree-seen (due now t) (stored e t) v; after = subst⁻¹ (λ (j : Kind). Agree (enqueue_by now e t j).dest) g.kind (agree-queue (due now t) (stored e t) v) }
perform-right L U N (joining p now) t g r w a =
    let v = joined-agree now p t g.once a in
    record { ready = agree-seen (due now t) (joined now p t) v; after = agree-dispatch now (joined now p t) (joined-kind t g.kind g.once now p) v }
perform-right L U N (leaving i last now) t g r w a = record { ready = λ s e. agree-seen (due now t) (returning now s last (drop_sub i t) t.kind) (back t g.kind g.once a now i last s e); after = left-agree t g.kind g.once a now i last (sub_of i t) refl }
perform-right L U N (asking i (acknowledge b now)) t g r w a = record { ready = (λ s e. agree-seen (due now t) (put_sub i (ack_sub b s).sub t) (taken-agree t g.kind g.once a i b s e), agree-seen (due now t) t a); after = acked-agree t g.kind g.once a now i b (sub_of i t) refl }
perform-right L U N (asking i (pulling timeout now)) t g r w a = record { ready = λ s e. agree-seen (due now t) (put_sub i (pulling-sub s) t) (registered t g.kind g.once a i s e); after = pull-agree now i timeout t (sub_of i t) g.kind g.once refl a }
perform-right L U N (asking i (timed_out generation)) t g r w a = record { ready = tt; after = timeout-agree t g.kind g.once a i generation (sub_of i t) refl }
perform-right L U N (asking i (prefetching p now)) t g r w a =
    let v = prefetch-agree t g.kind g.once a i p (sub_of i t) refl in
    record { ready = agree-seen (due now t) (prefetch_at i p t (sub_of i t)) v; after = agree-dispatch now (prefetch_at i p t (sub_of i t)) (prefetch-kind t g.kind g.once i p (sub_of i t)) v }
perform-right L U N (unmarking i) t g r w a = record { ready = tt; after = agree-part t (unmarked i t) (unmarked-expires (Unit {0}) 0 i t) (λ P h. unmarked-snaps P i t h) a }
perform-right L U N (releasing i now) t g r w a = record { ready = agree-seen (due now t) (reinsert now (map redelivered (reserved_of i t)) (with_reserved (keep (λ h. not (held_by i h)) t.reserved) t)) (released-agree t g.kind g.once a now i); after = release-agree t g.kind g.once a now i }
perform-right L U N (sweeping now most) t g r w a = record { ready = tt; after = agree-part t (sweep_expired now most t).dest (sweep-expires (Unit {0}) N now most t g.once g.subs) (λ P h. swept-snaps t g.kind g.once a P now most h) a }
perform-right L U N clearing t g r w a = record { ready = tt; after = snaps-cleared _ t.subs }
perform-right L U N (adding i) t g r w a = record { ready = tt; after = a }
perform-right L U N (removing i now) t g r w a = record { ready = tt; after = touched Agree now _ (λ j. a) }
perform-right L U N (testing i q) t g r w a = record { ready = tt; after = by-if (λ (x : Answer). Agree x.dest) (eqb i.conn 0) _ _ (λ c. a) (λ c. tested_agree t g.kind g.once a i q (find (audit_of i) t.audits)) }
perform-right L U N (forgetting conn) t g r w a = record { ready = tt; after = a }
perform-right L U N discarding t g r w a = record { ready = tt; after = a }
perform-right L U N missing t g r w a = record { ready = tt; after = a }

-- ---- along the account

right : (lent : Lengths) (c : Call) (t : Dest) → t.kind ≡ queue → (call lent c t).refusal ≡ 0 → Agree t → Right t c
right lent c t k h a =
    let q = accepted lent c t (call-accepted lent c t h) in
    perform-right _ _ _ c t (fine-queue t k q.is-sound) q.arguments q.own a

agreed : (a : List Entry) (l : List Departure) (t : Dest) → Account a l t → Agree t
agreed a l t (opening lent ws u h k) = subst⁻¹ Agree (opened-is lent ws u h) tt
agreed a l t (calling {a = b} {l = m} {t = u} lent code ws c low e r h n) =
    let s = called lent code ws c u low e in
    let z : (call lent c u).refusal ≡ 0 = sym (ap (λ (x : Result). x.refusal) s) ∙ h in
    subst⁻¹ (λ (x : Result). Agree x.dest) s (subst⁻¹ Agree (call-made lent c u (call-accepted lent c u z)) (right lent c u (kept b m u r).kind z (agreed b m u r)).after)

truly-one : (c : Call) (t : Dest) (e : Entry) → hasty (clock_reading c t) t (means c) e ≡ 0 → truly c t (departing t (means c) e) ≡ true
unfolding hasty alive
truly-one c t e = by-test (same_fate expired (fate_by t e (means c)))
    (λ x. by-test (removal t e (means c))
    (λ y. rw (x, y) (λ h. refl))
    (λ y. by-test (Consumer.expired (pos (clock_reading c t)) e) (λ z. rw (x, y, z) (λ h. refl)) (λ z. rw (x, y, z) (λ h. absurd (omega arith)))))
    (λ x. rw x (λ h. refl))

truly-all : (c : Call) (t : Dest) (l : List Entry) → sum (hasty (clock_reading c t) t (means c)) l ≡ 0 → all (truly c t) (map (departing t (means c)) l) ≡ true
truly-all c t [] h = refl
truly-all c t (e ∷ l) h = and_both (truly c t (departing t (means c) e)) _ (truly-one c t e (omega arith)) (truly-all c t l (omega arith))

pub expired-had-expired : ExpiredHadExpired
expired-had-expired a l t r lent code ws c low e h n =
    let k = kept a l t r in
    let s = called lent code ws c t low e in
    let z : (call lent c t).refusal ≡ 0 = sym (ap (λ (x : Result). x.refusal) s) ∙ h in
    let m = (moved lent c t (decode-coded code ws c e) k.kind z).0 in
    let g = (right lent c t k.kind z (agreed a l t r)).ready in
    subst⁻¹ (λ (x : Result). all (truly c t) (map (departing t (means c)) (leavers (brought c) t x.dest)) ≡ true) s
    (truly-all c t (leavers (brought c) t (call lent c t).dest)
    (leavers-sum (brought c) m.gone t (call lent c t).dest (λ x. omega (arith, still-once a c k.once n x, sum-append (occ x) a (brought c), k.sums (occ x) (occ-steady x))) m.sums (hasty (clock_reading c t) t (means c)) (hasty-steady (clock_reading c t) t (means c)) ∙ m.late g))
