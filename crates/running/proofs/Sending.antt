-- Every event of a call has its numbers in range: a call is accepted on a sound state alone, and a refused one sends nothing. Assumes nothing.
use Prim.Native.Nat.{ℕ, ◌+◌, ◌-◌, ◌≤◌, ◌^◌}
use native.Mathlib.Omega.{arith}
use mathlib.Core.Path.{◌≡◌, refl, sym, ◌∙◌, subst⁻¹}
use mathlib.Core.Bool.{Bool, true, false, not, ◌&&◌, ◌||◌}
use mathlib.Core.List.{List, [], ◌∷◌, ◌++◌}
use mathlib.Core.Option.{Option, none, some}
use borrow.Author.Tests.{eqb-true}
use lib.Dec.{ltb, eqb}
use lib.IntN.{ℤ, pos}
use lib.Signed.{lt_z}
use Rattle.audit.specs.Audit.{seen}
use Rattle.definition.specs.Base.{all, keep, empty}
use Rattle.definition.specs.Types.{Kind, queue, topic, Id, Entry, Inflight, Sub, Audit, Dest}
use Rattle.definition.specs.Consumer.{Ack, AckType, Delivered, Poison, Standard, Redelivered, Individual, Unmatched, Expired, Other, ack_type, ack_range, is_browser, snapshot, dead_letters, Step, ack_plain, ack_sub}
use Rattle.definition.specs.Destination.{Out, Answer, count, due, is_id, sub_of, put_sub, dispatch_by, dispatch, touch_idle, stored, fanned_out, enqueue_by, add_sub, set_prefetch, held_by, reserved_of, reserved_hit, letters, reserved_events, ack_reserved, ack_at, ack, pulled, resumed, pull_at, pull, fired, timeout_at, pull_timeout, returning, drop_sub, remove_at, remove_sub, return_reserved, sweep_list, sweep_subs, sweep_expired, clear, test_at, is_duplicate}
use Rattle.definition.specs.Calls.{Lengths, short, bound, signed_within, id_ok, entry_ok, clock_ok, ack_ok, flying, rows_of, held, Request, acknowledge, pulling, timed_out, prefetching, request_ok, ask, Call, enqueuing, joining, leaving, asking, unmarking, releasing, sweeping, clearing, adding, removing, testing, forgetting, discarding, missing, arguments_ok, own_refusal, perform, refusal, Result, refused, call}
use Rattle.definition.specs.Words.{decode, open_words, open_step, call_step, step}
use Rattle.definition.specs.Layout.{Buffers, view, formed, lengths_of, buffer_step}
use Rattle.definition.proofs.Tests.{by-if, and_left, and_right}
use Rattle.definition.proofs.Lists.{all-find, all_keep}
use Rattle.definition.proofs.Sums.{bad, sum-append, ok-sum, sum-ok}
use Rattle.definition.proofs.Fit.{Fit}
use Rattle.definition.proofs.Own.{pulling-sub}
use Rattle.definition.proofs.Whole.{Sane, all_map, Fine, fine}
use Rattle.definition.proofs.Ops.{touch-fine, kind-fine, reserved-fine, acked-fine, registered-fine, prefetch-fine}
use Rattle.definition.proofs.Reach.{stored-fine, fanned-fine}
use Rattle.definition.proofs.Leave.{returning-fine, release-some}
use Rattle.definition.proofs.Kept.{accepted, joins, Stores, stores}
use Rattle.subrows.proofs.Tests.{all_map as test-map}
use Rattle.running.proofs.Ranges.{id-fits, redelivery-fits, Fits, both, Ready, dispatch-fits}

-- ---- a sound state

flying-ok : (k : Kind) (s : Sub) → Fit k s → all entry_ok (flying s) ≡ true
flying-ok k s h = sum-ok (flying s) (omega (arith, ok-sum (rows_of s) h.ok, sum-append bad (flying s) (s.tpending ++ snapshot s)))

ready : (k : Kind) (s : Sub) → Fit k s → Ready s
ready k s h = record {
  id = h.named;
  list = sum-ok s.tpending (omega (arith, ok-sum (rows_of s) h.ok, sum-append bad (flying s) (s.tpending ++ snapshot s), sum-append bad s.tpending (snapshot s)));
  shown = sum-ok (snapshot s) (omega (arith, ok-sum (rows_of s) h.ok, sum-append bad (flying s) (s.tpending ++ snapshot s), sum-append bad s.tpending (snapshot s)));
}

-- ---- dead letters

letters-fit : (l : List Entry) → all entry_ok l ≡ true → Fits (letters l)
letters-fit [] a = tt
letters-fit (e ∷ l) a = by-if Fits e.persistent _ _
    (λ c. (redelivery-fits e (and_left (entry_ok e) _ a), letters-fit l (and_right (entry_ok e) _ a)))
    (λ c. letters-fit l (and_right (entry_ok e) _ a))

reserved-letters : (y : AckType) (l : List Entry) → all entry_ok l ≡ true → Fits (reserved_events l y)
unfolding reserved_events
reserved-letters Poison l a = letters-fit l a
reserved-letters Delivered l a = tt
reserved-letters Standard l a = tt
reserved-letters Redelivered l a = tt
reserved-letters Individual l a = tt
reserved-letters Unmatched l a = tt
reserved-letters Expired l a = tt
reserved-letters Other l a = tt

abbrev carries_ok : Inflight → Bool
carries_ok i = entry_ok i.entry

dead-fit : (cause : Bool) (l : List Inflight) → all carries_ok l ≡ true → Fits (dead_letters cause l)
dead-fit cause [] a = tt
dead-fit cause (i ∷ l) a = by-if Fits i.entry.persistent _ _
    (λ c. (redelivery-fits i.entry (and_left (carries_ok i) _ a), dead-fit cause l (and_right (carries_ok i) _ a)))
    (λ c. dead-fit cause l (and_right (carries_ok i) _ a))

plain_fits : (y : AckType) (a : Ack) (s : Sub) → all carries_ok s.inflight ≡ true → Fits (ack_plain a s y).events
unfolding ack_plain
plain_fits Poison a s h = by-if Fits (is_browser s) _ _ (λ c. tt) (λ c. dead-fit a.cause (keep (ack_range s a false) s.inflight) (all_keep carries_ok (ack_range s a false) s.inflight h))
plain_fits Delivered a s h = tt
plain_fits Standard a s h = tt
plain_fits Redelivered a s h = tt
plain_fits Individual a s h = tt
plain_fits Unmatched a s h = tt
plain_fits Expired a s h = tt
plain_fits Other a s h = tt

ack-fits : (k : Kind) (a : Ack) (s : Sub) → Fit k s → Fits (ack_sub a s).events
unfolding ack_sub
ack-fits k a s h = by-if (λ (t : Step). Fits t.events) a.transacted _ _
    (λ c. tt)
    (λ c. plain_fits (ack_type a.type) a s (sym (test-map entry_ok (λ i. i.entry) s.inflight) ∙ flying-ok k s h))

-- ---- each call

module _ (L U : ℕ) (k : Kind) where
  fine-fits : (N : ℕ) (j : Kind) (now : ℕ) (t : Dest) → Fine L U k N t → Fits (dispatch_by now t j).events
  fine-fits N j now t g = dispatch-fits j now t (record { subs = all_map (Sane k N) Ready t.subs (λ s h. ready k s h.fits) g.subs; waits = sum-ok t.pending (omega (arith, g.ok)) })

  found : (N : ℕ) (i : Id) (s : Sub) (t : Dest) → sub_of i t ≡ some s → Fine L U k N t → Fit k s
  found N i s t f g = (all-find (Sane k N) (is_id i) t.subs s g.subs f).fits

  -- ---- codes 4 to 7

  held-letters : (N : ℕ) (i : Id) (a : Ack) (t : Dest) (o : Option ℕ) → Fine L U k N t → Fits (ack_reserved i a t o).events
  unfolding ack_reserved
  held-letters N i a t none g = tt
  held-letters N i a t (some last) g = reserved-letters (ack_type a.type) _ (all_keep entry_ok (λ e. reserved_hit a.first last e (ack_type a.type)) (reserved_of i t)
      (test-map entry_ok (λ h. h.entry) (keep (held_by i) t.reserved) ∙ all_keep (λ h. entry_ok h.entry) (held_by i) t.reserved (sym (test-map entry_ok (λ h. h.entry) t.reserved) ∙ sum-ok (held t) (omega (arith, g.ok)))))

  acks : (N now : ℕ) (i : Id) (a : Ack) (t : Dest) (o : Option Sub) → sub_of i t ≡ o → clock_ok now ≡ true → Fine L U k N t → Fits (ack_at now i a t o).events
  unfolding ack_at
  acks N now i a t none f h g =
      let u : Dest = touch_idle now (ack_reserved i a t a.last).dest in
      by-if (λ (r : Out). Fits r.events) (a.transacted || empty (reserved_of i t)) _ _
      (λ c. tt)
      (λ c. both (ack_reserved i a t a.last).events (dispatch now u).events (held-letters N i a t a.last g) (fine-fits (N + 512 + 1) u.kind _ u (touch-fine L U k (N + 512) now _ h (reserved-fine L U k N i a t a.last g))))
  acks N now i a t (some s) f h g =
      let u : Dest = touch_idle now (count (ack_sub a s).counts (put_sub i (ack_sub a s).sub t)) in
      both (ack_sub a s).events (dispatch now u).events (ack-fits k a s (found N i s t f g)) (fine-fits (N + 513 + 1) u.kind _ u (touch-fine L U k (N + 513) now _ h (acked-fine L U k N i a s t f g)))

  pulls-null : (i : Id) (timeout : ℤ) (s : Sub) (r : Out) (o : Option ℕ) → id_ok s.id ≡ true → Fits r.events → Fits (pulled i timeout s r o).events
  unfolding pulled
  pulls-null i timeout s r none n h = h
  pulls-null i timeout s r (some g) n h = by-if (λ (x : Answer). Fits x.events) (lt_z timeout (pos 0)) _ _
      (λ c. both r.events _ h (id-fits s.id n, tt))
      (λ c. by-if (λ (x : Answer). Fits x.events) (lt_z (pos 0) timeout) _ _ (λ e. h) (λ e. h))

  resumes : (N : ℕ) (i : Id) (timeout : ℤ) (r : Out) (o : Option Sub) → sub_of i r.dest ≡ o → Fine L U k N r.dest → Fits r.events → Fits (resumed i timeout r o).events
  unfolding resumed
  resumes N i timeout r none f g h = h
  resumes N i timeout r (some s) f g h = pulls-null i timeout s r s.pull (found N i s r.dest f g).named h

  pulls : (N now : ℕ) (i : Id) (timeout : ℤ) (t : Dest) (o : Option Sub) → sub_of i t ≡ o → Fine L U k N t → Fits (pull_at now i timeout t o).events
  unfolding pull_at
  pulls N now i timeout t none f g = tt
  pulls N now i timeout t (some s) f g =
      let p : Fine L U k (N + 1) (put_sub i (pulling-sub s) t) = registered-fine L U k N i s t f g in
      by-if (λ (x : Answer). Fits x.events) (ltb 0 s.prefetch) _ _
      (λ c. tt)
      (λ c. resumes (N + 1 + 2048) i timeout (dispatch now (put_sub i (pulling-sub s) t)) _ refl (kind-fine L U k (N + 1) now _ p) (fine-fits (N + 1) _ _ _ p))

  fires : (i : Id) (generation : ℕ) (s : Sub) (t : Dest) (o : Option ℕ) → id_ok s.id ≡ true → Fits (fired i generation s t o).events
  unfolding fired
  fires i generation s t none n = tt
  fires i generation s t (some g) n = by-if (λ (r : Out). Fits r.events) (eqb g generation) _ _ (λ c. (id-fits s.id n, tt)) (λ c. tt)

  times-out : (N : ℕ) (i : Id) (generation : ℕ) (t : Dest) (o : Option Sub) → sub_of i t ≡ o → Fine L U k N t → Fits (timeout_at i generation t o).events
  unfolding timeout_at
  times-out N i generation t none f g = tt
  times-out N i generation t (some s) f g = fires i generation s t s.pull (found N i s t f g).named

  asks : (N : ℕ) (i : Id) (q : Request) (t : Dest) → request_ok q ≡ true → Fine L U k N t → Fits (ask i t q).events
  unfolding ask ack pull pull_timeout set_prefetch
  asks N i (acknowledge a now) t h g = acks N now i a t (sub_of i t) refl (and_right (ack_ok a) _ h) g
  asks N i (pulling timeout now) t h g = pulls N now i timeout t (sub_of i t) refl g
  asks N i (timed_out generation) t h g = times-out N i generation t (sub_of i t) refl g
  asks N i (prefetching p now) t h g = fine-fits (N + 1) _ _ _ (prefetch-fine L U k N i p t (sub_of i t) (and_left (signed_within (2 ^ 31) p) _ h) refl g)

  -- ---- the other calls

  leaves : (N now : ℕ) (i : Id) (last : ℤ) (t : Dest) (o : Option Sub) → sub_of i t ≡ o → clock_ok now ≡ true → Fine L U k N t → Fits (remove_at now i last t o).events
  unfolding remove_at
  leaves N now i last t none e h g = tt
  leaves N now i last t (some s) e h g = fine-fits (N + 512 + 1) _ _ _ (touch-fine L U k (N + 512) now _ h
      (subst⁻¹ (λ (j : Kind). Fine L U k (N + 512) (returning now s last (drop_sub i t) j)) g.kind (returning-fine L U k N now i last s t e g)))

  releases : (N now : ℕ) (i : Id) (t : Dest) → Fine L U k N t → Fits (return_reserved now i t).events
  unfolding return_reserved
  releases N now i t g = by-if (λ (r : Out). Fits r.events) (empty (reserved_of i t)) _ _
      (λ c. tt)
      (λ c. fine-fits (N + 512) _ _ _ (release-some L U k N now i t c g))

enqueues : (L U : ℕ) (k : Kind) (N now : ℕ) (e : Entry) (t : Dest) → Fine L U k N t → Stores k e t → Fits (enqueue_by now e t k).events
unfolding enqueue_by dispatch_by
enqueues L U queue N now e t g y = fine-fits L U queue (N + 1) queue _ (stored e t) (stored-fine L U N e t g y.ok y.fits y.new y.shared)
enqueues L U topic N now e t g y = fine-fits L U topic (N + 1024) topic _ (fanned_out (due now t) e t) (fanned-fine L U N (due now t) e t g y.ok y.fits y.new y.shared)

sweeps : (now most : ℕ) (t : Dest) → Fits (sweep_expired now most t).events
unfolding sweep_expired
sweeps now most t = by-if (λ (r : Answer). Fits r.events) (ltb 0 ((sweep_list most (due now t) t.pending).gone + (sweep_subs (most - (sweep_list most (due now t) t.pending).gone) (due now t) t.subs).gone)) _ _ (λ c. tt) (λ c. tt)

duplicates : (i : Id) (q : ℕ) (t : Dest) (o : Option Audit) → Fits (test_at i q t o).events
unfolding test_at
duplicates i q t none = tt
duplicates i q t (some a) = by-if (λ (r : Answer). Fits r.events) (seen q a.order) _ _ (λ c. tt) (λ c. tt)

performs : (L U : ℕ) (k : Kind) (N : ℕ) (c : Call) (t : Dest) → 1 ≤ N → Fine L U k N t → arguments_ok c ≡ true → own_refusal t c ≡ 0 → Fits (perform t c).events
unfolding perform add_sub remove_sub clear is_duplicate arguments_ok
performs L U k N (enqueuing e now) t n g a o = subst⁻¹ (λ (j : Kind). Fits (enqueue_by now e t j).events) g.kind (enqueues L U k N now e t g (stores L U k N e now t g a o))
performs L U k N (joining p now) t n g a o = fine-fits L U k (N + 513) _ _ _ (joins L U k N p now t n g a o)
performs L U k N (leaving i last now) t n g a o = leaves L U k N now i last t (sub_of i t) refl (and_right (signed_within (2 ^ 63) last) _ (and_right (id_ok i) _ a)) g
performs L U k N (asking i q) t n g a o = asks L U k N i q t (and_right (id_ok i) _ a) g
performs L U k N (unmarking i) t n g a o = tt
performs L U k N (releasing i now) t n g a o = releases L U k N now i t g
performs L U k N (sweeping now most) t n g a o = sweeps now most t
performs L U k N clearing t n g a o = tt
performs L U k N (adding i) t n g a o = tt
performs L U k N (removing i now) t n g a o = tt
performs L U k N (testing i q) t n g a o = by-if (λ (r : Answer). Fits r.events) (eqb i.conn 0) _ _ (λ c. tt) (λ c. duplicates i q t _)
performs L U k N (forgetting conn) t n g a o = tt
performs L U k N discarding t n g a o = tt
performs L U k N missing t n g a o = tt

call_fits : (l : Lengths) (c : Call) (t : Dest) → Fits (call l c t).events
unfolding call
call_fits l c t = by-if (λ (r : Result). Fits r.events) (eqb (refusal l c t) 0) _ _
    (λ e. let q = accepted l c t (eqb-true (refusal l c t) 0 e) in performs t.call_limit t.calls_used t.kind (bound t.calls_used) c t (omega arith) (fine t q.is-sound) q.arguments q.own)
    (λ e. tt)

decoded-fits : (l : Lengths) (t : Dest) (o : Option Call) → Fits (call_step l t o).events
unfolding call_step
decoded-fits l t none = tt
decoded-fits l t (some c) = call_fits l c t

step_fits : (l : Lengths) (code : ℕ) (words : List ℕ) (t : Dest) → Fits (step l code words t).events
unfolding step open_step
step_fits l code words t = by-if (λ (r : Result). Fits r.events) (eqb code 0) _ _
    (λ e. by-if (λ (r : Result). Fits r.events) (short l) _ _ (λ c. tt) (λ c. by-if (λ (r : Result). Fits r.events) (open_words words) _ _ (λ d. tt) (λ d. tt)))
    (λ e. decoded-fits l t (decode code words))

-- whatever is lent
pub events-fit : (b : Buffers) (n code : ℕ) (words : List ℕ) → Fits (buffer_step b n code words).events
unfolding buffer_step
events-fit b n code words = by-if (λ (r : Result). Fits r.events) (not (short (lengths_of b n)) && (not (eqb code 0) && not (formed b))) (refused 2 (view b)) (step (lengths_of b n) code words (view b))
    (λ _. tt)
    (λ _. step_fits (lengths_of b n) code words (view b))
