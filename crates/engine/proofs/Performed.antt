-- From what a part of a call leaves to what the whole call does, and to the call that its words give. Assumes nothing.
use mathlib.Core.Path.{◌≡◌, refl, sym, ap, ◌∙◌, subst, subst⁻¹}
use mathlib.Core.Bool.{true, ◌||◌, true≢false}
use mathlib.Core.List.{List}
use mathlib.Core.Option.{Option, some}
use Prim.Native.Nat.{ℕ, ◌≤◌, ◌<◌, ◌^◌}
use native.Mathlib.Omega.{arith}
use borrow.Author.Tests.{leb-true, ltb-true, ne_eqb}
use lib.Dec.{ltb}
use lib.ListN.{length}
use Rattle.definition.specs.Types.{Id, Audit, Dest}
use Rattle.definition.specs.Destination.{Out}
use Rattle.definition.specs.Destination as Def
use Rattle.definition.specs.Base.{is_some}
use Rattle.definition.specs.Calls.{Call, own_refusal, perform, clock_ok}
use Rattle.definition.specs.Words.{decode}
use Rattle.definition.specs.Layout.{Row}
use Rattle.definition.proofs.Tests.{by-test}
use Rattle.state.specs.declared.Head.{Head}
use Rattle.state.specs.Answers.{Replied}
use Rattle.state.specs.State.{head_view, done_as}
use Rattle.state.proofs.Leaves.{leaves-as}
use Rattle.engine.specs.Performs.{Performs, PerformsBy, on_tables, performed}
use Rattle.engine.specs.Requests.{Sends}

pub clock-in : (clock : ℕ) → clock_ok clock ≡ true → clock ≤ 2 ^ 62
clock-in clock h = leb-true clock (2 ^ 62) h

module _ (c : Call) (d : Head) (a : Replied) (subs rows events subs' rows' events' : List Row) where
  pub performs-by : (o : Option Call) → o ≡ some c → Performs c d a subs rows events subs' rows' events' → PerformsBy o d a subs rows events subs' rows' events'
  performs-by o e p = subst⁻¹ (λ (o : Option Call). PerformsBy o d a subs rows events subs' rows' events') e p

  -- the words give the same call by other names
  pub performs-as : (o : Option Call) (e : Call) → e ≡ c → o ≡ some c → Performs e d a subs rows events subs' rows' events' → PerformsBy o d a subs rows events subs' rows' events'
  performs-as o e h w p = performs-by o w (subst (λ (x : Call). Performs x d a subs rows events subs' rows' events') h p)

  -- a call that is never refused for reasons of its own, with the answer that it gives
  pub answered-performs : (f : Dest → Def.Answer) → ((t : Dest) → own_refusal t c ≡ 0) → ((t : Dest) → perform t c ≡ f t) → a.refusal ≡ 0
      → ((producers : List Id) (audits : List Audit) → length producers ≡ d.producers → a.answer ≡ (f (head_view d subs rows producers audits)).answer)
      → Sends (λ t. record { dest = (f t).dest; events = (f t).events }) d a.head subs rows events subs' rows' events'
      → Performs c d a subs rows events subs' rows' events'
  answered-performs f own does z answer s = record {
    refusal = λ p u e. z ∙ sym (own (head_view d subs rows p u));
    kept = λ n. absurd (n z);
    answer = λ _ p u e. answer p u e ∙ sym (ap (λ (x : Def.Answer). x.answer) (does (head_view d subs rows p u)));
    few = λ _. s.1;
    leaves = λ _. leaves-as (λ t. record { dest = (f t).dest; events = (f t).events }) (performed c) d a.head subs rows events subs' rows' events'
        (λ p u e. sym (ap (λ (x : Def.Answer). record { dest = x.dest; events = x.events }) (does (head_view d subs rows p u)))) s.0;
  }

-- with the answer 0
pub silent-performs : (c : Call) (d r : Head) (a : Replied) (subs rows events subs' rows' events' : List Row) (f : Dest → Out)
    → ((t : Dest) → own_refusal t c ≡ 0) → ((t : Dest) → perform t c ≡ record { answer = 0; dest = (f t).dest; events = (f t).events })
    → a ≡ done_as 0 r → Sends f d r subs rows events subs' rows' events' → Performs c d a subs rows events subs' rows' events'
silent-performs c d r a subs rows events subs' rows' events' f own does e s =
    subst⁻¹ (λ (a : Replied). Performs c d a subs rows events subs' rows' events') e
    (answered-performs c d (done_as 0 r) subs rows events subs' rows' events' (λ t. record { answer = 0; dest = (f t).dest; events = (f t).events }) own does refl (λ p u n. refl) s)

-- the same code by another name
pub by_code : (m n : ℕ) (w : List ℕ) (d : Head) (a : Replied) (subs rows events subs' rows' events' : List Row) → m ≡ n
    → PerformsBy (decode n w) d a subs rows events subs' rows' events' → PerformsBy (decode m w) d a subs rows events subs' rows' events'
by_code m n w d a subs rows events subs' rows' events' e p = subst⁻¹ (λ (k : ℕ). PerformsBy (decode k w) d a subs rows events subs' rows' events') e p

pub known-code : (m n : ℕ) (w : List ℕ) → m ≡ n → is_some (decode m w) ≡ true → is_some (decode n w) ≡ true
known-code m n w e t = sym (ap (λ (k : ℕ). is_some (decode k w)) e) ∙ t

-- code 10 is what is left
above-five : (n : ℕ) → 0 < n → (n ≡ 1 → ⊥) → (n ≡ 2 → ⊥) → (n ≡ 3 → ⊥) → (n ≡ 4 → ⊥) → (n ≡ 5 → ⊥) → 5 < n
above-five n z a b c d e = omega arith

tenth : (n : ℕ) → 5 < n → n < 11 → (n ≡ 6 → ⊥) → (n ≡ 7 → ⊥) → (n ≡ 8 → ⊥) → (n ≡ 9 → ⊥) → n ≡ 10
tenth n l y f g h i = omega arith

below : (n : ℕ) → on_tables n ≡ true → (n ≡ 15 → ⊥) → n < 11
below n y j = by-test (ltb n 11) (λ t. ltb-true n 11 t) (λ t. absurd (true≢false (sym y ∙ (λ k. t k || ne_eqb n 15 j k))))

pub last_code : (n : ℕ) → 0 < n → on_tables n ≡ true → (n ≡ 1 → ⊥) → (n ≡ 2 → ⊥) → (n ≡ 3 → ⊥) → (n ≡ 4 → ⊥) → (n ≡ 5 → ⊥) → (n ≡ 6 → ⊥) → (n ≡ 7 → ⊥) → (n ≡ 8 → ⊥) → (n ≡ 9 → ⊥) → (n ≡ 15 → ⊥) → n ≡ 10
last_code n z y a b c d e f g h i j = tenth n (above-five n z a b c d e) (below n y j) f g h i
