-- Every call of the call file, by what it makes of a queue's entries and counters. Assumes nothing.
use Prim.Native.Nat.{ℕ, ◌≤◌}
use native.Mathlib.Omega.{arith}
use mathlib.Core.Path.{◌≡◌, refl, sym, ◌∙◌, ap, subst, subst⁻¹}
use mathlib.Core.Bool.{Bool, true, false, not, ◌||◌}
use mathlib.Core.List.{List, [], ◌∷◌, map}
use mathlib.Core.Option.{Option, none, some}
use lib.Dec.{eqb}
use lib.IntN.{ℤ}
use Rattle.audit.specs.Audit.{seen}
use Rattle.definition.specs.Base.{whether◌then◌else◌, keep, find, empty}
use Rattle.definition.specs.Types.{Kind, queue, topic, Id, Entry, Sub, Audit, Dest, with_idle, with_reserved}
use Rattle.definition.specs.Consumer.{is_browser, redelivered, AckType, ack_type, Ack, ack_sub}
use Rattle.definition.specs.Destination.{Out, Answer, count, sub_of, put_sub, touch_idle, due, dispatch, dispatch_by, stored, enqueue_by, Spec, joined, add_sub, prefetch_at, set_prefetch, reinsert, held_by, reserved_of, ack_reserved, ack_at, ack, pull, pull_timeout, returning, drop_sub, remove_at, remove_sub, return_reserved, audit_of, test_at, is_duplicate}
use Rattle.definition.specs.Calls.{acknowledge, pulling, timed_out, prefetching, Call, enqueuing, joining, leaving, asking, unmarking, releasing, sweeping, clearing, adding, removing, testing, forgetting, discarding, missing, arguments_ok, own_refusal, ask, perform, used, brought}
use Rattle.definition.specs.Words.{provided, read, ranged_call, decode}
use Rattle.definition.proofs.Tests.{or-no-left, by-if, if-false}
use Rattle.definition.proofs.Sums.{sum, occ}
use Rattle.definition.proofs.Whole.{queue_sum, Fine}
use Rattle.definition.proofs.Own.{pulling-sub}
use Rattle.definition.proofs.Kept.{stores}
use Rattle.fates.proofs.Dispatch.{Late, late-none, dispatch-late}
use Rattle.fates.proofs.Parts.{Expires, alike, then-expires, idle-expires, touched, late-expires, Seen, served, stored-expires, joined-expires, prefetch-expires, timeout-expires, pull-expires, returning-expires, unmarked-expires, released-expires}
use Rattle.fates.proofs.Sweeps.{sweep-expires}
use Rattle.fates.proofs.Acks.{Acked, present-acked, absent-acked, same-acked, none-reserved}
use Rattle.fates.proofs.Steps.{Moves, clock-moves, clear-moves, ack-moves}
use Rattle.fates.specs.Fates.{acks, expires, means, named_reserved, named_at, named_by}
use Rattle.fates.specs.Account.{clock_reading}

-- ---- calls with a code

abbrev pub Coded : Call → Type 0
Coded discarding = ⊥
Coded missing = ⊥
Coded clearing = Unit {0}
Coded (enqueuing e now) = Unit {0}
Coded (joining p now) = Unit {0}
Coded (leaving i last now) = Unit {0}
Coded (asking i q) = Unit {0}
Coded (unmarking i) = Unit {0}
Coded (releasing i now) = Unit {0}
Coded (sweeping now most) = Unit {0}
Coded (adding i) = Unit {0}
Coded (removing i now) = Unit {0}
Coded (testing i q) = Unit {0}
Coded (forgetting conn) = Unit {0}

abbrev AllCoded : Option Call → Type 0
AllCoded none = Unit {0}
AllCoded (some c) = Coded c

given-coded : (b : Bool) (c : Call) → Coded c → AllCoded (provided b c)
unfolding provided
given-coded true c h = h
given-coded false c h = tt

read-coded : (code : ℕ) (ws : List ℕ) → AllCoded (read code ws)
unfolding read
read-coded code ws =
    by-if AllCoded (eqb code 1) _ _ (λ e. given-coded _ _ tt)
    (λ e. by-if AllCoded (eqb code 2) _ _ (λ e. given-coded _ _ tt)
    (λ e. by-if AllCoded (eqb code 3) _ _ (λ e. given-coded _ _ tt)
    (λ e. by-if AllCoded (eqb code 4) _ _ (λ e. given-coded _ _ tt)
    (λ e. by-if AllCoded (eqb code 5) _ _ (λ e. given-coded _ _ tt)
    (λ e. by-if AllCoded (eqb code 6) _ _ (λ e. given-coded _ _ tt)
    (λ e. by-if AllCoded (eqb code 7) _ _ (λ e. given-coded _ _ tt)
    (λ e. by-if AllCoded (eqb code 8) _ _ (λ e. given-coded _ _ tt)
    (λ e. by-if AllCoded (eqb code 9) _ _ (λ e. given-coded _ _ tt)
    (λ e. by-if AllCoded (eqb code 10) _ _ (λ e. given-coded _ _ tt)
    (λ e. by-if AllCoded (eqb code 11) _ _ (λ e. given-coded _ _ tt)
    (λ e. by-if AllCoded (eqb code 12) _ _ (λ e. given-coded _ _ tt)
    (λ e. by-if AllCoded (eqb code 13) _ _ (λ e. given-coded _ _ tt)
    (λ e. by-if AllCoded (eqb code 14) _ _ (λ e. given-coded _ _ tt)
    (λ e. by-if AllCoded (eqb code 15) _ _ (λ e. given-coded _ _ tt)
    (λ e. tt)))))))))))))))

range-coded : (o : Option Call) → AllCoded o → AllCoded (ranged_call o)
range-coded none h = tt
range-coded (some c) h = given-coded (arguments_ok c) c h

pub decode-coded : (code : ℕ) (ws : List ℕ) (c : Call) → decode code ws ≡ some c → Coded c
unfolding decode
decode-coded code ws c e = subst AllCoded e (range-coded (read code ws) (read-coded code ws))

-- ---- what a dispatch may meet

-- before each dispatch of the call, no browser's expired copy has a live entry waiting
abbrev pub Ready : Dest → Call → Type 0
Ready t (enqueuing e now) = Seen (due now t) (stored e t)
Ready t (joining p now) = Seen (due now t) (joined now p t)
Ready t (leaving i last now) = (s : Sub) → sub_of i t ≡ some s → Seen (due now t) (returning now s last (drop_sub i t) t.kind)
Ready t (asking i (acknowledge a now)) = ((s : Sub) → sub_of i t ≡ some s → Seen (due now t) (put_sub i (ack_sub a s).sub t)) × Seen (due now t) t
Ready t (asking i (pulling timeout now)) = (s : Sub) → sub_of i t ≡ some s → Seen (due now t) (put_sub i (pulling-sub s) t)
Ready t (asking i (timed_out generation)) = Unit {0}
Ready t (asking i (prefetching p now)) = Seen (due now t) (prefetch_at i p t (sub_of i t))
Ready t (unmarking i) = Unit {0}
Ready t (releasing i now) = Seen (due now t) (reinsert now (map redelivered (reserved_of i t)) (with_reserved (keep (λ h. not (held_by i h)) t.reserved) t))
Ready t (sweeping now most) = Unit {0}
Ready t clearing = Unit {0}
Ready t (adding i) = Unit {0}
Ready t (removing i now) = Unit {0}
Ready t (testing i q) = Unit {0}
Ready t (forgetting conn) = Unit {0}
Ready t discarding = Unit {0}
Ready t missing = Unit {0}

-- ---- each call

module _ (t : Dest) (k : t.kind ≡ queue) (o : (x : ℕ) → queue_sum (occ x) t ≤ 1) where
  enqueue-expires : (now : ℕ) (e : Entry) → sum (occ e.seq) t.pending ≡ 0 → Expires (Seen (due now t) (stored e t)) (due now t) 1 (e ∷ []) t (enqueue_by now e t t.kind).dest
  unfolding enqueue_by
  enqueue-expires now e z = subst⁻¹ (λ (j : Kind). Expires (Seen (due now t) (stored e t)) (due now t) 1 (e ∷ []) t (enqueue_by now e t j).dest) k
      (then-expires (due now t) 1 0 1 (e ∷ []) [] (e ∷ []) t (stored e t) _ refl (λ f. omega arith) (stored-expires _ _ e t z) (late-expires (due now t) (stored e t) _ (dispatch-late (due now t) (stored e t))) (λ h. h))

  pub prefetch-kind : (i : Id) (p : ℤ) (s : Option Sub) → (prefetch_at i p t s).kind ≡ queue
  prefetch-kind i p none = k
  prefetch-kind i p (some s) = k

  pub returning-kind : (now : ℕ) (s : Sub) (last : ℤ) (d : Dest) (j : Kind) → d.kind ≡ queue → (returning now s last d j).kind ≡ queue
  unfolding returning reinsert
  returning-kind now s last d topic h = h
  returning-kind now s last d queue h = by-if (λ (u : Dest). u.kind ≡ queue) (is_browser s) d _ (λ c. h) (λ c. h)

  returning-due : (now : ℕ) (s : Sub) (last : ℤ) (d : Dest) (j : Kind) → due now (returning now s last d j) ≡ due now d
  unfolding returning reinsert
  returning-due now s last d topic = refl
  returning-due now s last d queue = by-if (λ (u : Dest). due now u ≡ due now d) (is_browser s) d _ (λ c. refl) (λ c. refl)

  touch-served : (H : Type 0) (now k : ℕ) (u : Dest) → u.kind ≡ queue → due now u ≡ k → Expires H k 0 [] t u → (H → Seen k u) → Expires H k 0 [] t (dispatch now (touch_idle now u)).dest
  touch-served H now k u q d x h = touched (λ (v : Dest). Expires H k 0 [] t (dispatch now v).dest) now u (λ i. served now k 0 [] t (with_idle i u) q d (idle-expires k 0 [] t u i x) h)

  leave-expires : (now : ℕ) (i : Id) (last : ℤ) (s : Option Sub) → sub_of i t ≡ s → Expires (Ready t (leaving i last now)) (due now t) 0 [] t (remove_at now i last t s).dest
  unfolding remove_at
  leave-expires now i last none e = alike _ _ t t (λ f w. refl) refl
  leave-expires now i last (some s) e = touch-served (Ready t (leaving i last now)) now (due now t) (returning now s last (drop_sub i t) t.kind) (returning-kind now s last (drop_sub i t) t.kind k) (returning-due now s last (drop_sub i t) t.kind)
      (returning-expires _ now i last s t t.kind k o e) (λ h. h s e)

  release-expires : (now : ℕ) (i : Id) → Expires (Ready t (releasing i now)) (due now t) 0 [] t (return_reserved now i t).dest
  unfolding return_reserved reinsert
  release-expires now i = by-if (λ (r : Out). Expires (Ready t (releasing i now)) (due now t) 0 [] t r.dest) (empty (reserved_of i t)) _ _
      (λ c. alike _ _ t t (λ f w. refl) refl)
      (λ c. served now (due now t) 0 [] t v rk refl (released-expires _ now i t o) (λ h. h))
    where
      v : Dest
      v = reinsert now (map redelivered (reserved_of i t)) (with_reserved (keep (λ h. not (held_by i h)) t.reserved) t)

      rk : v.kind ≡ queue
      rk = k

  pub joined-kind : (now : ℕ) (p : Spec) → (joined now p t).kind ≡ queue
  joined-kind now p = by-if (λ (u : Dest). u.kind ≡ queue) p.browser _ _ (λ c. k) (λ c. k)

  joined-due : (now : ℕ) (p : Spec) → due now (joined now p t) ≡ due now t
  joined-due now p = by-if (λ (u : Dest). due now u ≡ due now t) p.browser _ _ (λ c. refl) (λ c. refl)

  prefetch-due : (now : ℕ) (i : Id) (p : ℤ) (s : Option Sub) → due now (prefetch_at i p t s) ≡ due now t
  prefetch-due now i p none = refl
  prefetch-due now i p (some s) = refl

  reserved-due : (now : ℕ) (i : Id) (a : Ack) (l : Option ℕ) → due now (ack_reserved i a t l).dest ≡ due now t
  unfolding ack_reserved
  reserved-due now i a none = refl
  reserved-due now i a (some last) = refl

  idle-acked : (y : AckType) (own : List Entry) (v : Dest) (i : Option ℕ) → Acked y own t v → Acked y own t (with_idle i v)
  idle-acked y own v i x = record { sums = x.sums; waits = x.waits; counts = x.counts; grows = x.grows; stats = x.stats }

  dispatched : (H : Type 0) (now : ℕ) (v : Dest) → v.kind ≡ queue → (H → Seen (due now v) v) → Late H (due now v) v (dispatch now v).dest
  unfolding dispatch_by
  dispatched H now v q h = subst⁻¹ (λ (j : Kind). Late H (due now v) v (dispatch_by (due now v) v j).dest) q
      (let x = dispatch-late (due now v) v in record { gone = x.gone; sums = x.sums; waited = x.waited; late = λ z. x.late (h z); tells = x.tells })

  acked-moves : (H : Type 0) (now k : ℕ) (y : AckType) (own : List Entry) (v : Dest) → v.kind ≡ queue → due now v ≡ k → Acked y own t v → (H → Seen k v) → Moves H k (acks y) own [] t (dispatch now (touch_idle now v)).dest
  acked-moves H now k y own v q d = subst (λ k. Acked y own t v → (H → Seen k v) → Moves H k (acks y) own [] t (dispatch now (touch_idle now v)).dest) d (λ x h. touched (λ (u : Dest). Moves H (due now v) (acks y) own [] t (dispatch now u).dest) now v
      (λ i. ack-moves H (due now v) y own t (with_idle i v) _ o (idle-acked y own v i x) (dispatched H now (with_idle i v) q h)))

  reserved-seen : (now : ℕ) (i : Id) (a : Ack) (l : Option ℕ) → Seen now t → Seen now (ack_reserved i a t l).dest
  unfolding ack_reserved
  reserved-seen now i a none h = h
  reserved-seen now i a (some last) h = h

  pub reserved-kind : (i : Id) (a : Ack) (l : Option ℕ) → (ack_reserved i a t l).dest.kind ≡ queue
  unfolding ack_reserved
  reserved-kind i a none = k
  reserved-kind i a (some last) = k

  still : (H : Type 0) (now : ℕ) (y : AckType) (own : List Entry) → own ≡ [] → Moves H now (acks y) own [] t t
  still H now y own e = subst⁻¹ (λ (l : List Entry). Moves H now (acks y) l [] t t) e (ack-moves H now y [] t t t o (same-acked y t) (late-none H now t))

  -- of an absent consumer
  absent : (now : ℕ) (i : Id) (a : Ack) → Moves (Ready t (asking i (acknowledge a now))) (due now t) (acks (ack_type a.type)) (whether a.transacted then [] else named_at i a t none) [] t (ack_at now i a t none).dest
  unfolding ack_at
  absent now i a = by-if (λ (r : Out). Moves (Ready t (asking i (acknowledge a now))) (due now t) (acks (ack_type a.type)) (whether a.transacted then [] else named_at i a t none) [] t r.dest) (a.transacted || empty (reserved_of i t)) _ _
      (λ c. still _ _ (ack_type a.type) _ (nothing c))
      (λ c. subst⁻¹ (λ (l : List Entry). Moves (Ready t (asking i (acknowledge a now))) (due now t) (acks (ack_type a.type)) l [] t (dispatch now (touch_idle now (ack_reserved i a t a.last).dest)).dest) (if-false [] (named_reserved i a t a.last) (or-no-left a.transacted _ c))
      (acked-moves _ now (due now t) (ack_type a.type) (named_reserved i a t a.last) (ack_reserved i a t a.last).dest (reserved-kind i a a.last) (reserved-due now i a a.last) (absent-acked i a t a.last) (λ h. reserved-seen (due now t) i a a.last h.1)))
    where
      nothing : (a.transacted || empty (reserved_of i t)) ≡ true → (whether a.transacted then [] else named_reserved i a t a.last) ≡ []
      nothing c = by-if (λ (l : List Entry). l ≡ []) a.transacted [] (named_reserved i a t a.last) (λ x. refl) (λ x. none-reserved i a t a.last (sym (ap (λ b. b || empty (reserved_of i t)) x) ∙ c))

  acknowledges : (now : ℕ) (i : Id) (a : Ack) (s : Option Sub) → sub_of i t ≡ s → Moves (Ready t (asking i (acknowledge a now))) (due now t) (acks (ack_type a.type)) (whether a.transacted then [] else named_at i a t s) [] t (ack_at now i a t s).dest
  unfolding ack_at
  acknowledges now i a none e = absent now i a
  acknowledges now i a (some s) e = acked-moves _ now (due now t) (ack_type a.type) _ (count (ack_sub a s).counts (put_sub i (ack_sub a s).sub t)) k refl (present-acked i a s t e) (λ h. h.0 s e)

  tested : (H : Type 0) (now : ℕ) (i : Id) (q : ℕ) (a : Option Audit) → Expires H now 0 [] t (test_at i q t a).dest
  unfolding test_at
  tested H now i q none = alike H now t _ (λ f w. refl) refl
  tested H now i q (some a) = by-if (λ (r : Answer). Expires H now 0 [] t r.dest) (seen q a.order) _ _ (λ c. alike H now t t (λ f w. refl) refl) (λ c. alike H now t _ (λ f w. refl) refl)

-- what an acknowledgement names
abbrev pub takes : Dest → Call → List Entry
takes t (asking i (acknowledge a now)) = named_by i a t
takes t (asking i (pulling timeout now)) = []
takes t (asking i (timed_out generation)) = []
takes t (asking i (prefetching p now)) = []
takes t (enqueuing e now) = []
takes t (joining p now) = []
takes t (leaving i last now) = []
takes t (unmarking i) = []
takes t (releasing i now) = []
takes t (sweeping now most) = []
takes t clearing = []
takes t (adding i) = []
takes t (removing i now) = []
takes t (testing i q) = []
takes t (forgetting conn) = []
takes t discarding = []
takes t missing = []

same-moves : {H : Type 0} (now : ℕ) (t u : Dest) → Expires H now 0 [] t u → Moves H now expires [] [] t u
same-moves {H} now t u x = clock-moves H now [] t u x

pub perform-moves : (L U N : ℕ) (c : Call) (t : Dest) → Coded c → Fine L U queue N t → arguments_ok c ≡ true → own_refusal t c ≡ 0 → Moves (Ready t c) (clock_reading c t) (means c) (takes t c) (brought c) t (perform t c).dest
unfolding perform ask add_sub set_prefetch ack pull pull_timeout remove_sub is_duplicate
perform-moves L U N (enqueuing e now) t z g a r =
    let y = stores L U queue N e now t g a r in
    clock-moves _ (due now t) (e ∷ []) t _ (enqueue-expires t g.kind g.once now e (omega (arith, y.new)))
perform-moves L U N (joining p now) t z g a r = same-moves (due now t) t _ (served now (due now t) 0 [] t (joined now p t) (joined-kind t g.kind g.once now p) (joined-due t g.kind g.once now p) (joined-expires _ now p t) (λ h. h))
perform-moves L U N (leaving i last now) t z g a r = same-moves (due now t) t _ (leave-expires t g.kind g.once now i last (sub_of i t) refl)
perform-moves L U N (asking i (acknowledge b now)) t z g a r = acknowledges t g.kind g.once now i b (sub_of i t) refl
perform-moves L U N (asking i (pulling timeout now)) t z g a r = same-moves (due now t) t _ (pull-expires _ now i timeout t (sub_of i t) g.kind refl (λ h. h))
perform-moves L U N (asking i (timed_out generation)) t z g a r = same-moves (due 0 t) t _ (timeout-expires _ _ i generation t (sub_of i t) refl)
perform-moves L U N (asking i (prefetching p now)) t z g a r = same-moves (due now t) t _ (served now (due now t) 0 [] t (prefetch_at i p t (sub_of i t)) (prefetch-kind t g.kind g.once i p (sub_of i t)) (prefetch-due t g.kind g.once now i p (sub_of i t)) (prefetch-expires _ _ i p t (sub_of i t) refl) (λ h. h))
perform-moves L U N (unmarking i) t z g a r = same-moves (due 0 t) t _ (unmarked-expires _ _ i t)
perform-moves L U N (releasing i now) t z g a r = same-moves (due now t) t _ (release-expires t g.kind g.once now i)
perform-moves L U N (sweeping now most) t z g a r = same-moves (due now t) t _ (sweep-expires _ N now most t g.once g.subs)
perform-moves L U N clearing t z g a r = clear-moves _ _ t
perform-moves L U N (adding i) t z g a r = same-moves (due 0 t) t _ (alike _ _ t _ (λ f w. refl) refl)
perform-moves L U N (removing i now) t z g a r = same-moves (due now t) t _ (touched (λ (u : Dest). Expires (Unit {0}) (due now t) 0 [] t u) now _ (λ j. alike _ _ t _ (λ f w. refl) refl))
perform-moves L U N (testing i q) t z g a r = same-moves (due 0 t) t _ (by-if (λ (x : Answer). Expires (Unit {0}) (due 0 t) 0 [] t x.dest) (eqb i.conn 0) _ _ (λ c. alike _ _ t t (λ f w. refl) refl) (λ c. tested t g.kind g.once _ _ i q (find (audit_of i) t.audits)))
perform-moves L U N (forgetting conn) t z g a r = same-moves (due 0 t) t _ (alike _ _ t _ (λ f w. refl) refl)
perform-moves L U N discarding t z g a r = absurd z
perform-moves L U N missing t z g a r = absurd z

-- with the call used
pub used-moves : {H : Type 0} (now : ℕ) (c : Call) (t u : Dest) → Moves H now (means c) (takes t c) (brought c) t u → Moves H now (means c) (takes t c) (brought c) t (used u)
used-moves now c t u x = record { gone = x.gone; removes = x.removes; sums = x.sums; late = x.late; enqueued = x.enqueued; dequeued = x.dequeued; expired = x.expired; discarded = x.discarded }
