-- A leave, the two halves of a release, a sweep and a clear as parts, and as whole calls. Assumes nothing.
use mathlib.Core.Path.{◌≡◌, refl, sym, ap, ◌∙◌, subst⁻¹}
use mathlib.Core.Bool.{Bool, true, false, true≢false}
use mathlib.Core.List.{List, []}
use mathlib.Core.Option.{Option, none, some}
use Prim.Native.Nat.{ℕ, ◌+◌, ◌-◌}
use native.Mathlib.Omega.{arith}
use lib.Dec.{ltb}
use lib.IntN.{ℤ}
use lib.ListN.{length}
use Rattle.definition.specs.Base.{is_some, empty}
use Rattle.definition.specs.Types.{Id, Audit, Dest}
use Rattle.definition.specs.Types as Def
use Rattle.definition.specs.Destination as Destination
use Rattle.definition.specs.Destination.{Out, sub_of, due, dispatch, reserved_of, remove_at, remove_sub, unmarked, return_reserved, Swept, SweptSubs, sweep_list, sweep_subs, sweep_expired, clear}
use Rattle.definition.specs.Calls.{Call, leaving, unmarking, releasing, sweeping, clearing, own_refusal, perform, bound}
use Rattle.definition.specs.Layout.{Row}
use Rattle.definition.proofs.Tests.{by-test, if-true, if-false}
use Rattle.definition.proofs.Whole.{fine_more}
use Rattle.definition.proofs.Leave.{returning-fine, release-some}
use Rattle.state.specs.declared.Head.{Head}
use Rattle.state.specs.Answers.{Replied}
use Rattle.state.specs.State.{head_view, done_as}
use Rattle.state.specs.Leaves.{silent, both, LeavesIf, Room}
use Rattle.state.proofs.Leaves.{leaves-as, leaves-when}
use Rattle.state.proofs.Ready.{Keeps}
use Rattle.returns.specs.Returns.{departed_at, departed, freed}
use Rattle.returns.proofs.Freeing.{freed-none}
use Rattle.expiry.specs.Expiry.{clear_out, sweep_out, SweepAnswers}
use Rattle.engine.specs.Performs.{performed, Performs}
use Rattle.engine.specs.Requests.{sent_on, Sends}
use Rattle.engine.proofs.Parts.{sends-as}

-- ---- a call that has no refusal of its own

-- what a part leaves, with an answer
abbrev pub with_answer : ℕ → Out → Destination.Answer
with_answer n o = record { answer = n; dest = o.dest; events = o.events }

module _ (c : Call) (d : Head) (subs rows events subs' rows' events' : List Row) (own : (t : Dest) → own_refusal t c ≡ 0) where
  -- it is accepted, and answered
  performs : (a : Replied) → a.refusal ≡ 0
      → ((producers : List Id) (audits : List Audit) → length producers ≡ d.producers → a.answer ≡ (perform (head_view d subs rows producers audits) c).answer)
      → Sends (performed c) d a.head subs rows events subs' rows' events'
      → Performs c d a subs rows events subs' rows' events'
  performs a e h s = record {
    refusal = λ p u _. e ∙ sym (own (head_view d subs rows p u));
    kept = λ no. absurd (no e);
    answer = λ _. h;
    few = λ _. s.1;
    leaves = λ _. s.0;
  }

  -- by its parts
  pub performs-done : (n : ℕ) (f : Dest → Out) (a : Replied) (r : Head) → a ≡ done_as n r
      → ((producers : List Id) (audits : List Audit) → perform (head_view d subs rows producers audits) c ≡ with_answer n (f (head_view d subs rows producers audits)))
      → Sends f d r subs rows events subs' rows' events'
      → Performs c d a subs rows events subs' rows' events'
  performs-done n f a r e h s =
      subst⁻¹ (λ (x : Replied). Performs c d x subs rows events subs' rows' events') e
      (performs (done_as n r) refl (λ p u _. sym (ap (λ (x : Destination.Answer). x.answer) (h p u)))
      (sends-as d r subs rows events subs' rows' events' f (performed c) (λ p u. sym (ap (λ (x : Destination.Answer). record { dest = x.dest; events = x.events }) (h p u))) s))

  -- by a function that is total, where its test holds
  pub performs-tested : (a : Replied) (test : Bool) → test ≡ true → (f : Dest → Destination.Answer) (g : Dest → Out)
      → ((t : Dest) → f t ≡ perform t c) → ((t : Dest) → g t ≡ performed c t)
      → LeavesIf test (Room d a.head) g d a.head subs rows events subs' rows' events' → SweepAnswers test f d subs rows a
      → Performs c d a subs rows events subs' rows' events'
  performs-tested a test holds f g f-is g-is l q =
      let k = leaves-when test (Room d a.head) g d a.head subs rows events subs' rows' events' holds l in
      performs a (q.refusal ∙ if-true 0 2 holds)
      (λ p u e. q.answer p u e ∙ if-true (f (head_view d subs rows p u)).answer 0 holds ∙ ap (λ (r : Destination.Answer). r.answer) (f-is (head_view d subs rows p u)))
      (leaves-as g (performed c) d a.head subs rows events subs' rows' events' (λ p u e. g-is (head_view d subs rows p u)) k.0, omega (arith, k.1.room))

-- ---- clear and sweep

pub own-clear : (t : Dest) → own_refusal t clearing ≡ 0
unfolding own_refusal
own-clear t = refl

pub clear-is : (t : Dest) → clear t ≡ perform t clearing
unfolding perform
clear-is t = refl

pub clear-out : (t : Dest) → clear_out t ≡ performed clearing t
unfolding perform clear
clear-out t = refl

module _ (now most : ℕ) where
  pub own-sweep : (t : Dest) → own_refusal t (sweeping now most) ≡ 0
  unfolding own_refusal
  own-sweep t = refl

  pub sweep-is : (t : Dest) → sweep_expired now most t ≡ perform t (sweeping now most)
  unfolding perform
  sweep-is t = refl

  -- it sends nothing
  sweep-silent : (t : Dest) → (sweep_expired now most t).events ≡ []
  unfolding sweep_expired
  sweep-silent t = by-test (ltb 0 (w.gone + r.gone)) (λ e. rw e) (λ e. rw e)
    where
      w : Swept
      w = sweep_list most (due now t) t.pending

      r : SweptSubs
      r = sweep_subs (most - w.gone) (due now t) t.subs

  pub sweep-out : (t : Dest) → sweep_out now most t ≡ performed (sweeping now most) t
  unfolding perform
  sweep-out t = ap (λ (l : List Def.Event). record { dest = (sweep_expired now most t).dest; events = l }) (sym (sweep-silent t))

-- ---- leave

module _ (now : ℕ) (i : Id) (last : ℤ) where
  pub own-leave : (t : Dest) → own_refusal t (leaving i last now) ≡ 0
  unfolding own_refusal
  own-leave t = refl

  present-at : (t : Dest) (o : Option Def.Sub) → is_some o ≡ true
      → remove_at now i last t o ≡ with_answer 1 (sent_on now (silent (λ u. departed_at now i last u o)) t)
  unfolding remove_at
  present-at t none e = absurd (true≢false (sym e))
  present-at t (some s) e = refl

  -- of a consumer that is there
  pub leave-present : (t : Dest) → is_some (sub_of i t) ≡ true
      → perform t (leaving i last now) ≡ with_answer 1 (sent_on now (silent (departed now i last)) t)
  unfolding perform remove_sub
  leave-present t e = present-at t (sub_of i t) e

  absent-at : (t : Dest) (o : Option Def.Sub) → is_some o ≡ false → remove_at now i last t o ≡ with_answer 0 (silent (λ t. t) t)
  unfolding remove_at
  absent-at t none e = refl
  absent-at t (some s) e = absurd (true≢false e)

  -- and of one that is not
  pub leave-absent : (t : Dest) → is_some (sub_of i t) ≡ false → perform t (leaving i last now) ≡ with_answer 0 (silent (λ t. t) t)
  unfolding perform remove_sub
  leave-absent t e = absent-at t (sub_of i t) e

  left-keeps-at : (t : Dest) (o : Option Def.Sub) → sub_of i t ≡ o → Keeps 512 t (silent (λ u. departed_at now i last u o) t)
  left-keeps-at t none e g = fine_more t.call_limit t.calls_used t.kind (bound t.calls_used) (bound t.calls_used + 512) t (omega arith) g
  left-keeps-at t (some s) e g = returning-fine t.call_limit t.calls_used t.kind (bound t.calls_used) now i last s t e g

  pub left-keeps : (t : Dest) → Keeps 512 t (silent (departed now i last) t)
  left-keeps t = left-keeps-at t (sub_of i t) refl

-- ---- the halves of a release

module _ (i : Id) where
  pub own-unmark : (t : Dest) → own_refusal t (unmarking i) ≡ 0
  unfolding own_refusal
  own-unmark t = refl

  pub unmark-is : (t : Dest) → perform t (unmarking i) ≡ with_answer 0 (silent (unmarked i) t)
  unfolding perform
  unmark-is t = refl

module _ (now : ℕ) (i : Id) where
  pub own-release : (t : Dest) → own_refusal t (releasing i now) ≡ 0
  unfolding own_refusal
  own-release t = refl

  -- none is reserved: nothing returns, and nothing is sent
  pub release-none : (t : Dest) → empty (reserved_of i t) ≡ true → perform t (releasing i now) ≡ with_answer 0 (silent (freed now i) t)
  unfolding perform return_reserved
  release-none t e =
      ap (with_answer 0) (if-true (silent (λ u. u) t) (dispatch now (freed now i t)) e) ∙ ap (λ (x : Dest). with_answer 0 (silent (λ y. y) x)) (sym (freed-none now i t e))

  -- else the dispatch follows
  pub release-sends : (t : Dest) → empty (reserved_of i t) ≡ false → perform t (releasing i now) ≡ with_answer 0 (both (silent (freed now i)) (dispatch now) t)
  unfolding perform return_reserved
  release-sends t e = ap (with_answer 0) (if-false (silent (λ u. u) t) (dispatch now (freed now i t)) e)

  pub freed-keeps : (t : Dest) → empty (reserved_of i t) ≡ false → Keeps 512 t (silent (freed now i) t)
  freed-keeps t e g = release-some t.call_limit t.calls_used t.kind (bound t.calls_used) now i t e g
