-- No call sends more than 545 events. Assumes nothing.
use Prim.Native.Nat.{ℕ, ◌+◌, ◌-◌, ◌≤◌, ◌^◌}
use native.Mathlib.Omega.{arith}
use mathlib.Core.Path.{◌≡◌, refl, ◌∙◌, ap, subst⁻¹}
use mathlib.Core.Bool.{true, ◌||◌}
use mathlib.Core.List.{List, [], ◌∷◌}
use mathlib.Core.Option.{Option, none, some}
use lib.Dec.{ltb, eqb}
use lib.IntN.{ℤ}
use lib.ListN.{length, length-append, length-map}
use borrow.Author.Tests.{eqb-true}
use Rattle.definition.specs.Base.{keep, empty}
use Rattle.definition.specs.Types.{Kind, queue, topic, Id, Entry, Sub, Dest, Event}
use Rattle.definition.specs.Consumer.{Ack, AckType, Delivered, Poison, Standard, Redelivered, Individual, Unmatched, Expired, Other, ack_type}
use Rattle.audit.specs.Audit.{seen}
use Rattle.definition.specs.Destination.{Out, Answer, sub_of, dispatch_by, touch_idle, stored, fanned_out, enqueue_by, add_sub, returning, drop_sub, remove_at, remove_sub, reserved_of, held_by, return_reserved, reserved_hit, letters, reserved_events, ack_reserved, ack_at, ack, pull_at, pull, timeout_at, pull_timeout, set_prefetch, sweep_list, sweep_subs, sweep_expired, clear, test_at, is_duplicate, due}
use Rattle.definition.specs.Calls.{Lengths, short, bound, id_ok, clock_ok, signed_within, sound, Request, acknowledge, pulling, timed_out, prefetching, ask, Call, enqueuing, joining, leaving, asking, unmarking, releasing, sweeping, clearing, adding, removing, testing, forgetting, discarding, missing, arguments_ok, own_refusal, perform, refusal, Result, call}
use Rattle.definition.specs.Words.{decode, open_words, open_step, call_step, step}
use Rattle.definition.proofs.Tests.{by-if, by-test, and_right}
use Rattle.definition.proofs.Lists.{keep-length}
use Rattle.definition.proofs.Sums.{one, sum_one}
use Rattle.definition.proofs.Whole.{sums, rows_m, Fine, fine}
use Rattle.definition.proofs.Dispatch.{rows-parts}
use Rattle.definition.proofs.Ops.{touch-fine}
use Rattle.definition.proofs.Reach.{stored-fine, fanned-fine}
use Rattle.definition.proofs.Leave.{returning-fine, release-some}
use Rattle.definition.proofs.Kept.{accepted, joins, Stores, stores}
use Rattle.definition.proofs.Room.{waiting_rows, dispatch-sends, ask-sends, touch-pending, touch-subs}

waiting-rows : (l : List Sub) → waiting_rows l ≤ sums (rows_m one) l
waiting-rows [] = omega arith
waiting-rows (s ∷ l) = omega (arith, rows-parts s, waiting-rows l)

module _ (L U : ℕ) (k : Kind) (N : ℕ) where
  fine-sends : (j : Kind) (now : ℕ) (t : Dest) → Fine L U k N t → length (dispatch_by now t j).events ≤ 545
  fine-sends j now t g = omega (arith, dispatch-sends j now t, waiting-rows t.subs, g.rows, sum_one t.pending, g.few-subs)

  -- ---- codes 4 to 7 of an absent consumer

  letters-length : (l : List Entry) → length (letters l) ≤ length l
  letters-length [] = omega arith
  letters-length (e ∷ l) = by-if (λ (x : List Event). length x ≤ length (e ∷ l)) e.persistent _ _ (λ c. omega (arith, letters-length l)) (λ c. omega (arith, letters-length l))

  reserved-letters : (y : AckType) (l : List Entry) → length (reserved_events l y) ≤ length l
  unfolding reserved_events
  reserved-letters Poison l = letters-length l
  reserved-letters Delivered l = omega arith
  reserved-letters Standard l = omega arith
  reserved-letters Redelivered l = omega arith
  reserved-letters Individual l = omega arith
  reserved-letters Unmatched l = omega arith
  reserved-letters Expired l = omega arith
  reserved-letters Other l = omega arith

  pub record Took (t : Dest) (r : Out) : Type 0 where
    pub events : length r.events ≤ length t.reserved
    pending : r.dest.pending ≡ t.pending
    subs : r.dest.subs ≡ t.subs

  pub took : (i : Id) (a : Ack) (t : Dest) (o : Option ℕ) → Took t (ack_reserved i a t o)
  unfolding ack_reserved
  took i a t none = record { events = omega arith; pending = refl; subs = refl }
  took i a t (some last) = record {
    events = omega (arith, reserved-letters (ack_type a.type) (keep (λ e. reserved_hit a.first last e (ack_type a.type)) (reserved_of i t)), keep-length (λ e. reserved_hit a.first last e (ack_type a.type)) (reserved_of i t), length-map (keep (held_by i) t.reserved) (λ h. h.entry), keep-length (held_by i) t.reserved);
    pending = refl;
    subs = refl;
  }

  absent-ack : (now : ℕ) (i : Id) (a : Ack) (t : Dest) → Fine L U k N t → length (ack_at now i a t none).events ≤ 545
  unfolding ack_at
  absent-ack now i a t g = by-if (λ (r : Out). length r.events ≤ 545) (a.transacted || empty (reserved_of i t)) _ _ (λ c. omega arith)
      (λ c. let r = took i a t a.last in let u = (ack_reserved i a t a.last).dest in simp length-append (omega (
        arith,
        r.events,
        dispatch-sends (touch_idle now (ack_reserved i a t a.last).dest).kind (due now (touch_idle now (ack_reserved i a t a.last).dest)) (touch_idle now (ack_reserved i a t a.last).dest),
        ap length (touch-pending now (ack_reserved i a t a.last).dest ∙ r.pending),
        ap waiting_rows (touch-subs now (ack_reserved i a t a.last).dest ∙ r.subs),
        ap length (touch-subs now (ack_reserved i a t a.last).dest ∙ r.subs),
        waiting-rows t.subs,
        g.rows,
        sum_one t.pending,
        sum_one (Rattle.definition.specs.Calls.held t),
        length-map t.reserved (λ h. h.entry),
        g.few-subs,
      )))

  absent-sends : (i : Id) (q : Request) (t : Dest) → sub_of i t ≡ none → Fine L U k N t → length (ask i t q).events ≤ 545
  unfolding ask ack pull pull_at pull_timeout timeout_at set_prefetch
  absent-sends i (acknowledge a now) t f g = rw f (absent-ack now i a t g)
  absent-sends i (pulling timeout now) t f g = rw f (omega arith)
  absent-sends i (timed_out generation) t f g = rw f (omega arith)
  absent-sends i (prefetching p now) t f g = rw f (fine-sends t.kind (due now t) t g)

  asked-sends : (i : Id) (q : Request) (t : Dest) (o : Option Sub) → sub_of i t ≡ o → sound t ≡ true → Fine L U k N t → length (ask i t q).events ≤ 545
  asked-sends i q t none f e g = absent-sends i q t f g
  asked-sends i q t (some s) f e g = ask-sends i q s t e f

-- ---- the other calls

enqueue-sends : (L U : ℕ) (k : Kind) (N now : ℕ) (e : Entry) (t : Dest) → Fine L U k N t → Stores k e t → length (enqueue_by now e t k).events ≤ 545
unfolding enqueue_by dispatch_by
enqueue-sends L U queue N now e t g y = fine-sends L U queue (N + 1) queue (due now t) (stored e t) (stored-fine L U N e t g y.ok y.fits y.new y.shared)
enqueue-sends L U topic N now e t g y = fine-sends L U topic (N + 1024) topic (due now t) (fanned_out (due now t) e t) (fanned-fine L U N (due now t) e t g y.ok y.fits y.new y.shared)

leave-sends : (L U : ℕ) (k : Kind) (N now : ℕ) (i : Id) (last : ℤ) (t : Dest) (o : Option Sub) → sub_of i t ≡ o → clock_ok now ≡ true → Fine L U k N t → length (remove_at now i last t o).events ≤ 545
unfolding remove_at
leave-sends L U k N now i last t none e h g = omega arith
leave-sends L U k N now i last t (some s) e h g = fine-sends L U k (N + 512 + 1) _ _ _ (touch-fine L U k (N + 512) now _ h
    (subst⁻¹ (λ (j : Kind). Fine L U k (N + 512) (returning now s last (drop_sub i t) j)) g.kind (returning-fine L U k N now i last s t e g)))

release-sends : (L U : ℕ) (k : Kind) (N now : ℕ) (i : Id) (t : Dest) → Fine L U k N t → length (return_reserved now i t).events ≤ 545
unfolding return_reserved
release-sends L U k N now i t g = by-test (empty (reserved_of i t))
    (λ c. rw c (omega arith))
    (λ c. rw c (fine-sends L U k (N + 512) _ _ _ (release-some L U k N now i t c g)))

duplicate-sends : (i : Id) (q : ℕ) (t : Dest) (o : Option Rattle.definition.specs.Types.Audit) → length (test_at i q t o).events ≤ 545
unfolding test_at
duplicate-sends i q t none = omega arith
duplicate-sends i q t (some a) = by-if (λ (r : Answer). length r.events ≤ 545) (seen q a.order) _ _ (λ c. omega arith) (λ c. omega arith)

sweep-sends : (now most : ℕ) (t : Dest) → length (sweep_expired now most t).events ≤ 545
unfolding sweep_expired
sweep-sends now most t = by-test (ltb 0 ((sweep_list most (due now t) t.pending).gone + (sweep_subs (most - (sweep_list most (due now t) t.pending).gone) (due now t) t.subs).gone)) (λ c. rw c (omega arith)) (λ c. rw c (omega arith))

in-clock : (i : Id) (last : ℤ) (now : ℕ) → arguments_ok (leaving i last now) ≡ true → clock_ok now ≡ true
unfolding arguments_ok
in-clock i last now a = and_right (signed_within (2 ^ 63) last) _ (and_right (id_ok i) _ a)

perform-sends : (L U : ℕ) (k : Kind) (N : ℕ) (c : Call) (t : Dest) → 1 ≤ N → sound t ≡ true → Fine L U k N t → arguments_ok c ≡ true → own_refusal t c ≡ 0 → length (perform t c).events ≤ 545
unfolding perform add_sub remove_sub clear is_duplicate
perform-sends L U k N (enqueuing e now) t n y g a o = subst⁻¹ (λ (j : Kind). length (enqueue_by now e t j).events ≤ 545) g.kind (enqueue-sends L U k N now e t g (stores L U k N e now t g a o))
perform-sends L U k N (joining p now) t n y g a o = fine-sends L U k (N + 513) _ _ _ (joins L U k N p now t n g a o)
perform-sends L U k N (leaving i last now) t n y g a o = leave-sends L U k N now i last t (sub_of i t) refl (in-clock i last now a) g
perform-sends L U k N (asking i q) t n y g a o = asked-sends L U k N i q t (sub_of i t) refl y g
perform-sends L U k N (unmarking i) t n y g a o = omega arith
perform-sends L U k N (releasing i now) t n y g a o = release-sends L U k N now i t g
perform-sends L U k N (sweeping now most) t n y g a o = sweep-sends now most t
perform-sends L U k N clearing t n y g a o = omega arith
perform-sends L U k N (adding i) t n y g a o = omega arith
perform-sends L U k N (removing i now) t n y g a o = omega arith
perform-sends L U k N (testing i q) t n y g a o = by-if (λ (r : Answer). length r.events ≤ 545) (eqb i.conn 0) _ _ (λ c. omega arith) (λ c. duplicate-sends i q t _)
perform-sends L U k N (forgetting conn) t n y g a o = omega arith
perform-sends L U k N discarding t n y g a o = omega arith
perform-sends L U k N missing t n y g a o = omega arith

pub call-sends : (lent : Lengths) (c : Call) (t : Dest) → length (call lent c t).events ≤ 545
unfolding call
call-sends lent c t = by-if (λ (r : Result). length r.events ≤ 545) (eqb (refusal lent c t) 0) _ _
    (λ e. let q = accepted lent c t (eqb-true (refusal lent c t) 0 e) in perform-sends t.call_limit t.calls_used t.kind (bound t.calls_used) c t (omega arith) q.is-sound (fine t q.is-sound) q.arguments q.own)
    (λ e. omega arith)

step-sends : (lent : Lengths) (t : Dest) (o : Option Call) → length (call_step lent t o).events ≤ 545
unfolding call_step
step-sends lent t none = omega arith
step-sends lent t (some c) = call-sends lent c t

-- a call of the call file, accepted or not
pub sends-fit : (lent : Lengths) (code : ℕ) (words : List ℕ) (t : Dest) → length (step lent code words t).events ≤ 545
unfolding step open_step
sends-fit lent code words t = by-if (λ (r : Result). length r.events ≤ 545) (eqb code 0) _ _
    (λ e. by-if (λ (r : Result). length r.events ≤ 545) (short lent) _ _ (λ c. omega arith) (λ c. by-if (λ (r : Result). length r.events ≤ 545) (open_words words) _ _ (λ d. omega arith) (λ d. omega arith)))
    (λ e. step-sends lent t (decode code words))
