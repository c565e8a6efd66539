-- Codes 11 to 14 by their words, in the head. Assumes nothing.
use mathlib.Core.Path.{◌≡◌, refl, sym, ap, ◌∙◌, subst, subst⁻¹}
use mathlib.Core.Bool.{true, false, true≢false}
use mathlib.Core.List.{List, []}
use mathlib.Core.Option.{Option, none, some}
use Prim.Native.Nat.{ℕ, ◌<◌, ◌≤◌}
use native.Mathlib.Omega.{arith}
use borrow.Author.Tests.{ne_eqb, eqb-false, ltb-true, ltb-false}
use lib.Dec.{eqb, ltb}
use lib.ListN.{length, drop}
use Rattle.audit.specs.Audit.{seen}
use Rattle.definition.specs.Base.{is_some, find}
use Rattle.definition.specs.Types.{Id, Audit, Dest}
use Rattle.definition.specs.Destination.{Answer, audit_of, test_at, is_duplicate}
use Rattle.definition.specs.Calls.{Call, adding, removing, testing, forgetting, perform}
use Rattle.definition.specs.Words.{at, id_in, unused_from, read, decode}
use Rattle.definition.proofs.Tests.{by-test, by-if, or-no-left, or-no-right}
use Rattle.calls.proofs.Decoded.{decoded}
use Rattle.state.specs.declared.Head.{Head}
use Rattle.state.specs.Answers as State
use Rattle.producers.specs.Producers.{HeadLeft, head_fits, added, producer_removed, tested, released, Promised}
use Rattle.producers.proofs.Past.{added-past, removed-past, tested-past, released-past}
use Rattle.engine.specs.Performs.{HeadBy, on_tables}

-- no code above 15 is known
pub far-code : (n : ℕ) (w : List ℕ) → 15 < n → is_some (decode n w) ≡ false
unfolding decode read
far-code n w h = rw (no 1 (omega arith), no 2 (omega arith), no 3 (omega arith), no 4 (omega arith), no 5 (omega arith), no 6 (omega arith), no 7 (omega arith), no 8 (omega arith), no 9 (omega arith), no 10 (omega arith), no 11 (omega arith), no 12 (omega arith), no 13 (omega arith), no 14 (omega arith), no 15 (omega arith))
  where
    no : (k : ℕ) → k < n → eqb n k ≡ false
    no k l = ne_eqb n k (λ e. omega (arith, e, l))

module _ (w : List ℕ) (d : Head) (h : List ℕ) (a : State.Replied) (k : List ℕ) (f : head_fits (length h) d ≡ true) where
  -- from a function's promise to the call that the words give
  by-promise : (o : Option Call) (c e : Call) (all : HeadLeft) → o ≡ some c → e ≡ c → Promised e all d h a k → drop 8345 all.words ≡ drop 8345 h → ((t : Dest) → (perform t c).events ≡ []) → HeadBy o d h a k
  by-promise o c e all q x p past quiet = subst⁻¹ (λ (o : Option Call). HeadBy o d h a k) q (record {
    performs = (subst (λ (y : Call). Promised y all d h a k) x p).performs;
    past = ap (λ (y : HeadLeft). drop 8345 y.words) p.exact ∙ past;
    silent = quiet;
  })

  pub add-head : is_some (decode 11 w) ≡ true → (i : Id) → i ≡ id_in w → Promised (adding i) (added i d h) d h a k → HeadBy (decode 11 w) d h a k
  unfolding read perform
  add-head t i e p = by-promise (decode 11 w) (adding (id_in w)) (adding i) (added i d h) (decoded 11 w (unused_from 3 w) (adding (id_in w)) refl t).call (ap adding e) p (added-past d h f i) (λ t. refl)

  pub remove-head : is_some (decode 12 w) ≡ true → (i : Id) → i ≡ id_in w → Promised (removing i (at 3 w)) (producer_removed (at 3 w) i d h) d h a k → HeadBy (decode 12 w) d h a k
  unfolding read perform
  remove-head t i e p = by-promise (decode 12 w) (removing (id_in w) (at 3 w)) (removing i (at 3 w)) (producer_removed (at 3 w) i d h) (decoded 12 w (unused_from 4 w) (removing (id_in w) (at 3 w)) refl t).call
      (ap (λ (j : Id). removing j (at 3 w)) e) p (removed-past d h f (at 3 w) i) (λ t. refl)

  tested-quiet : (i : Id) (q : ℕ) (t : Dest) (o : Option Audit) → (test_at i q t o).events ≡ []
  unfolding test_at
  tested-quiet i q t none = refl
  tested-quiet i q t (some x) = by-test (seen q x.order) (λ c. rw c) (λ c. rw c)

  test-quiet : (i : Id) (q : ℕ) (t : Dest) → (perform t (testing i q)).events ≡ []
  unfolding perform is_duplicate
  test-quiet i q t = by-if (λ (r : Answer). r.events ≡ []) (eqb i.conn 0) _ _ (λ c. refl) (λ c. tested-quiet i q t (find (audit_of i) t.audits))

  pub test-head : is_some (decode 13 w) ≡ true → (i : Id) → i ≡ id_in w → Promised (testing i (at 3 w)) (tested i (at 3 w) d h) d h a k → HeadBy (decode 13 w) d h a k
  unfolding read
  test-head t i e p = by-promise (decode 13 w) (testing (id_in w) (at 3 w)) (testing i (at 3 w)) (tested i (at 3 w) d h) (decoded 13 w (unused_from 4 w) (testing (id_in w) (at 3 w)) refl t).call
      (ap (λ (j : Id). testing j (at 3 w)) e) p (tested-past i (at 3 w) d h f) (test-quiet (id_in w) (at 3 w))

  pub forget-head : is_some (decode 14 w) ≡ true → Promised (forgetting (at 0 w)) (released (at 0 w) d h) d h a k → HeadBy (decode 14 w) d h a k
  unfolding read perform
  forget-head t p = by-promise (decode 14 w) (forgetting (at 0 w)) (forgetting (at 0 w)) (released (at 0 w) d h) (decoded 14 w (unused_from 1 w) (forgetting (at 0 w)) refl t).call refl p (released-past d h f (at 0 w)) (λ t. refl)

-- the same code by another name
pub head-code : (m n : ℕ) (w : List ℕ) (d : Head) (h : List ℕ) (a : State.Replied) (k : List ℕ) → m ≡ n → HeadBy (decode n w) d h a k → HeadBy (decode m w) d h a k
head-code m n w d h a k e p = subst⁻¹ (λ (x : ℕ). HeadBy (decode x w) d h a k) e p

-- code 14 is what is left
pub last-head : (n : ℕ) (w : List ℕ) → on_tables n ≡ false → (n ≡ 11 → ⊥) → (n ≡ 12 → ⊥) → (n ≡ 13 → ⊥) → is_some (decode n w) ≡ true → n ≡ 14
last-head n w l a b c t = by-test (ltb 15 n)
    (λ e. absurd (true≢false (sym t ∙ far-code n w (ltb-true 15 n e))))
    (λ e. within (ltb-false 15 n e) (ltb-false n 11 (or-no-left (ltb n 11) (eqb n 15) l)) (eqb-false n 15 (or-no-right (ltb n 11) (eqb n 15) l)))
  where
    within : n ≤ 15 → 11 ≤ n → (n ≡ 15 → ⊥) → n ≡ 14
    within m k j = omega arith
