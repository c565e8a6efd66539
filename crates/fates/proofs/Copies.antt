-- Browsers' copies: a call takes from snapshots or, as a join, makes one of what waits; so where a copy has expired, the entry with its number has. Assumes nothing.
use Prim.Native.Nat.{ℕ, zero, suc, ◌+◌, ◌-◌, ◌≤◌}
use native.Mathlib.Omega.{arith}
use mathlib.Core.Path.{◌≡◌, refl, sym, ◌∙◌, ap, subst⁻¹}
use mathlib.Core.Bool.{Bool, true, not, ◌||◌}
use mathlib.Core.List.{List, [], ◌∷◌, ◌++◌, map}
use mathlib.Core.Option.{Option, none, some}
use lib.IntN.{pos}
use lib.ListN.{length, set}
use borrow.Author.Tests.{eq-eqb}
use Rattle.definition.specs.Base.{find, put, nth, empty}
use Rattle.definition.specs.Types.{Kind, queue, Entry, Sub, Dest, with_cursor, with_idle}
use Rattle.definition.specs.Consumer.{expired, zero_stats, is_browser, has_credit, shown, snapshot, send, same_seq, Browse, drain_browser, dispatch_browser, meet_browser, close_browser, AckType, Delivered, Poison, Standard, Redelivered, Individual, Unmatched, Expired, Other, ack_type, Ack, ack_transacted, ack_plain, ack_sub, Step}
use Rattle.definition.specs.Destination.{touch_idle, Look, look, given, visit_at, visit, scan, turns, rounds, browsers, dispatch_queue, dispatch_by, due, dispatch, emptied, cleared, without, sweep_list, sweep_subs}
use Rattle.definition.proofs.Tests.{by-if, by-test}
use Rattle.definition.proofs.Lists.{some_inj, All, all-put, all-find}
use Rattle.definition.proofs.Sums.{sum, occ}
use Rattle.definition.proofs.Whole.{queue_sum, all_map}
use Rattle.fates.proofs.Measures.{Steady, only}
use Rattle.fates.proofs.Dispatch.{alive, dispatch-late}
use Rattle.fates.proofs.Parts.{Expires, Seen, touched}
use Rattle.fates.proofs.Sweeps.{dead, holding-sum}
use Rattle.fates.specs.Fates.{holding}

-- of every copy that a browser has yet to show
abbrev pub Snaps : (Entry → Type 0) → List Sub → Type 0
Snaps P l = All (λ s. All P (snapshot s)) l

pub snaps-where : (P Q : Entry → Type 0) (l : List Sub) → ((k : Entry) → P k → Q k) → Snaps P l → Snaps Q l
snaps-where P Q [] h a = tt
snaps-where P Q (s ∷ l) h a = (all_map P Q (snapshot s) h a.0, snaps-where P Q l h a.1)

-- ---- consumers in their places

module _ (P : Entry → Type 0) where
  pub snaps-put : (p : Sub → Bool) (l : List Sub) (s v : Sub) → find p l ≡ some s → snapshot v ≡ snapshot s → Snaps P l → Snaps P (put p v l)
  snaps-put p l s v f e a = all-put (λ r. All P (snapshot r)) p l v a (subst⁻¹ (All P) e (all-find (λ r. All P (snapshot r)) p l s a f))

  snaps-set : (i : ℕ) (l : List Sub) (s v : Sub) → nth i l ≡ some s → snapshot v ≡ snapshot s → Snaps P l → Snaps P (set l i v)
  snaps-set i [] s v f e a = tt
  snaps-set zero (r ∷ l) s v f e a = (subst⁻¹ (All P) (e ∙ ap snapshot (sym (some_inj f))) a.0, a.1)
  snaps-set (suc i) (r ∷ l) s v f e a = (a.0, snaps-set i l s v f e a.1)

  pub snaps-map : (g : Sub → Sub) (l : List Sub) → ((s : Sub) → snapshot (g s) ≡ snapshot s) → Snaps P l → Snaps P (map g l)
  snaps-map g [] h a = tt
  snaps-map g (s ∷ l) h a = (subst⁻¹ (All P) (h s) a.0, snaps-map g l h a.1)

  pub snaps-without : (p : Sub → Bool) (l : List Sub) → Snaps P l → Snaps P (without p l)
  snaps-without p [] a = tt
  snaps-without p (s ∷ l) a = by-if (Snaps P) (p s) l (s ∷ without p l) (λ c. a.1) (λ c. (a.0, snaps-without p l a.1))

  pub snaps-more : (l : List Sub) (v : Sub) → Snaps P l → All P (snapshot v) → Snaps P (l ++ v ∷ [])
  snaps-more [] v a h = (h, tt)
  snaps-more (s ∷ l) v a h = (a.0, snaps-more l v a.1 h)

  pub snaps-swept : (budget now : ℕ) (l : List Sub) → Snaps P l → Snaps P (sweep_subs budget now l).subs
  unfolding sweep_subs
  snaps-swept budget now [] a = tt
  snaps-swept budget now (s ∷ l) a = (a.0, snaps-swept (budget - (sweep_list budget now s.tpending).gone) now l a.1)

  emptied-shown : (o : Option (List Entry)) → All P (shown (emptied o))
  emptied-shown none = tt
  emptied-shown (some l) = tt

  pub snaps-cleared : (l : List Sub) → Snaps P (map cleared l)
  snaps-cleared [] = tt
  snaps-cleared (s ∷ l) = (emptied-shown s.browser, snaps-cleared l)

  -- ---- a dispatch

  drained-snap : (now : ℕ) (l : List Entry) (b : Browse) → All P (snapshot b.sub) → All P l → All P (snapshot (drain_browser now l b).sub)
  unfolding drain_browser close_browser meet_browser
  drained-snap now [] b h g = by-if (λ (x : Browse). All P (snapshot x.sub)) (has_credit b.sub) (close_browser b) b (λ c. closed) (λ c. h)
    where
      closed : All P (snapshot (close_browser b).sub)
      closed = by-if (λ (x : Browse). All P (snapshot x.sub)) b.sub.finished b _ (λ c. h) (λ c. h)
  drained-snap now (e ∷ es) b h g = by-if (λ (x : Browse). All P (snapshot x.sub)) (has_credit b.sub) (drain_browser now es (meet_browser now e es b)) b
      (λ c. drained-snap now es (meet_browser now e es b) met g.1)
      (λ c. h)
    where
      met : All P (snapshot (meet_browser now e es b).sub)
      met = by-if (λ (x : Browse). All P (snapshot x.sub)) (expired (pos now) e) _ _ (λ c. g.1) (λ c. g.1)

  browsed-snaps : (now : ℕ) (l : List Sub) (p : List Entry) → Snaps P l → Snaps P (browsers now l p).subs
  unfolding browsers
  browsed-snaps now [] p a = tt
  browsed-snaps now (s ∷ l) p a = (
    by-if (λ (x : Browse). All P (snapshot x.sub)) (is_browser s) (dispatch_browser now p s) (record { sub = s; pending = p; counts = zero_stats; events = [] }) (λ c. drained-snap now (snapshot s) _ a.0 a.0) (λ c. a.0),
    browsed-snaps now l _ a.1,
  )

  given-snaps : (i : ℕ) (s : Sub) (l : Look) (t : Dest) (o : Option Entry) → nth i t.subs ≡ some s → Snaps P t.subs → Snaps P (given i s l t o).dest.subs
  unfolding given
  given-snaps i s l t none e a = snaps-set i t.subs s (with_cursor l.cursor s) e refl a
  given-snaps i s l t (some x) e a = snaps-set i t.subs s (send x (with_cursor l.cursor s)) e refl a

  visit-snaps : (now i : ℕ) (t : Dest) → Snaps P t.subs → Snaps P (visit now i t).dest.subs
  unfolding visit visit_at
  visit-snaps now i t a = go (nth i t.subs) refl
    where
      go : (o : Option Sub) → nth i t.subs ≡ o → Snaps P (visit now i t).dest.subs
      go none e = rw e a
      go (some s) e = rw e (by-test (is_browser s || not (has_credit s)) (λ c. rw c a) (λ c. rw c (given-snaps i s (look now s s.cursor t.pending) t _ e a)))

  scan-snaps : (now : ℕ) (is : List ℕ) (t : Dest) → Snaps P t.subs → Snaps P (scan now is t).dest.subs
  unfolding scan
  scan-snaps now [] t a = a
  scan-snaps now (i ∷ is) t a = by-test (visit now i t).took
      (λ c. rw c (visit-snaps now i t a))
      (λ c. rw c (scan-snaps now is (visit now i t).dest (visit-snaps now i t a)))

  rounds-snaps : (fuel now : ℕ) (t : Dest) → Snaps P t.subs → Snaps P (rounds fuel now t).dest.subs
  unfolding rounds
  rounds-snaps zero now t a = a
  rounds-snaps (suc fuel) now t a = by-test (not (scan now (turns t) t).took || empty (scan now (turns t) t).dest.pending)
      (λ c. rw c (scan-snaps now (turns t) t a))
      (λ c. rw c (rounds-snaps fuel now (scan now (turns t) t).dest (scan-snaps now (turns t) t a)))

  dispatch-snaps : (now : ℕ) (t : Dest) → Snaps P t.subs → Snaps P (dispatch_queue now t).dest.subs
  unfolding dispatch_queue
  dispatch-snaps now t a = by-test (empty t.subs)
      (λ c. rw c a)
      (λ c. rw c (rounds-snaps (suc (length (browsers now t.subs t.pending).pending)) now _ (browsed-snaps now t.subs t.pending a)))

-- an acknowledgement leaves the snapshot
transacted-snap : (y : AckType) (a : Ack) (s : Sub) → snapshot (ack_transacted a s y) ≡ snapshot s
unfolding ack_transacted
transacted-snap Delivered a s = refl
transacted-snap Poison a s = refl
transacted-snap Standard a s = refl
transacted-snap Redelivered a s = refl
transacted-snap Individual a s = refl
transacted-snap Unmatched a s = refl
transacted-snap Expired a s = refl
transacted-snap Other a s = refl

plain-snap : (y : AckType) (a : Ack) (s : Sub) → snapshot (ack_plain a s y).sub ≡ snapshot s
unfolding ack_plain
plain-snap Delivered a s = refl
plain-snap Poison a s = refl
plain-snap Standard a s = refl
plain-snap Redelivered a s = refl
plain-snap Individual a s = refl
plain-snap Unmatched a s = refl
plain-snap Expired a s = refl
plain-snap Other a s = refl

pub ack-snap : (a : Ack) (s : Sub) → snapshot (ack_sub a s).sub ≡ snapshot s
unfolding ack_sub
ack-snap a s = by-if (λ (r : Step). snapshot r.sub ≡ snapshot s) a.transacted _ _ (λ c. transacted-snap (ack_type a.type) a s) (λ c. plain-snap (ack_type a.type) a s)

-- ---- copies that agree

-- at any clock at which the copy has expired, no entry of the queue with its number is alive
abbrev pub Agrees : Dest → Entry → Type 0
Agrees t k = (now : ℕ) → expired (pos now) k ≡ true → queue_sum (only (same_seq k) (alive now)) t ≡ 0

abbrev pub Agree : Dest → Type 0
Agree t = Snaps (Agrees t) t.subs

pub copy-steady : (k : Entry) (now : ℕ) → Steady (only (same_seq k) (alive now))
unfolding alive expired
copy-steady k now e = refl

-- fewer entries
pub agrees-less : (t u : Dest) → ((f : Entry → ℕ) → Steady f → queue_sum f u ≤ queue_sum f t) → (k : Entry) → Agrees t k → Agrees u k
agrees-less t u h k a now e = omega (arith, a now e, h (only (same_seq k) (alive now)) (copy-steady k now))

pub agree_less : (t u : Dest) → ((f : Entry → ℕ) → Steady f → queue_sum f u ≤ queue_sum f t) → ((P : Entry → Type 0) → Snaps P t.subs → Snaps P u.subs) → Agree t → Agree u
agree_less t u h s a = snaps-where (Agrees t) (Agrees u) u.subs (agrees-less t u h) (s (Agrees t) a)

pub agree-part : {H : Type 0} {now n : ℕ} (t u : Dest) → Expires H now n [] t u → ((P : Entry → Type 0) → Snaps P t.subs → Snaps P u.subs) → Agree t → Agree u
agree-part t u x s a = agree_less t u (λ f w. omega (arith, x.sums f w)) s a

pub agree-seen : (now : ℕ) (t : Dest) → Agree t → Seen now t
agree-seen now t a = snaps-where (Agrees t) (λ k. expired (pos now) k ≡ true → sum (only (same_seq k) (alive now)) t.pending ≡ 0) t.subs (λ k h e. omega (arith, h now e)) a

pub agree-queue : (now : ℕ) (t : Dest) → Agree t → Agree (dispatch_queue now t).dest
agree-queue now t a = agree_less t (dispatch_queue now t).dest (λ f w. omega (arith, (dispatch-late now t).sums f)) (λ P h. dispatch-snaps P now t h) a

pub agree-dispatch : (now : ℕ) (t : Dest) → t.kind ≡ queue → Agree t → Agree (dispatch now t).dest
unfolding dispatch_by
agree-dispatch now t k a = subst⁻¹ (λ (j : Kind). Agree (dispatch_by (due now t) t j).dest) k (agree-queue (due now t) t a)

pub agree-touched : (now : ℕ) (t : Dest) → t.kind ≡ queue → Agree t → Agree (dispatch now (touch_idle now t)).dest
agree-touched now t k a = touched (λ (u : Dest). Agree (dispatch now u).dest) now t (λ i. agree-dispatch now (with_idle i t) k a)

-- ---- a copy of what waits

both : (now : ℕ) (k : Entry) (l : List Entry) → sum (only (same_seq k) (dead now)) l + sum (only (same_seq k) (alive now)) l ≡ sum (occ k.seq) l
unfolding dead alive occ
both now k [] = refl
both now k (e ∷ l) = by-test (same_seq k e)
    (λ c. rw c (by-test (expired (pos now) e) (λ d. rw d (omega (arith, both now k l))) (λ d. rw d (omega (arith, both now k l)))))
    (λ c. rw c (omega (arith, both now k l)))

mine : (now : ℕ) (k : Entry) → expired (pos now) k ≡ true → only (same_seq k) (dead now) k ≡ 1
unfolding dead
mine now k h = rw (eq-eqb k.seq k.seq refl, h)

pub agrees-mine : (t : Dest) (k : Entry) → ((x : ℕ) → queue_sum (occ x) t ≤ 1) → ((f : Entry → ℕ) → f k ≤ sum f t.pending) → Agrees t k
agrees-mine t k o h now e = omega (arith, both now k (holding t), holding-sum (only (same_seq k) (dead now)) t, holding-sum (only (same_seq k) (alive now)) t, holding-sum (occ k.seq) t, o k.seq, h (only (same_seq k) (dead now)), mine now k e)

-- each of a list is in it
pub in_itself : (l : List Entry) → All (λ k. (f : Entry → ℕ) → f k ≤ sum f l) l
in_itself [] = tt
in_itself (e ∷ l) = (λ f. omega arith, all_map _ _ l (λ k h f. omega (arith, h f)) (in_itself l))
