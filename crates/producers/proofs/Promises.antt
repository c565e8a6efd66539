-- Promises carried along equal results and words; and that of a refused call. Assumes nothing.
use mathlib.Core.Path.{◌≡◌, refl, sym, subst}
use mathlib.Core.Bool.{true, false}
use mathlib.Core.List.{List}
use Prim.Native.Nat.{ℕ}
use native.Mathlib.Omega.{arith}
use lib.ListN.{length, drop}
use Rattle.words.specs.Pick.{whether◌then◌else◌}
use Rattle.definition.specs.Calls.{Call, own_refusal}
use Rattle.definition.specs.Layout.{Row, rings_formed}
use Rattle.state.specs.declared.Head.{Head}
use Rattle.state.specs.Answers.{Replied}
use Rattle.state.specs.State.{refused_as}
use Rattle.producers.specs.Producers.{head_fits, HeadLeft, head_left, head_dest, PerformsInHead, Promised}

module _ (c : Call) (d : Head) (h : List ℕ) where
  pub carried : (all : HeadLeft) (r s : Replied) (k m : List ℕ) → r ≡ s → k ≡ m → Promised c all d h s m → Promised c all d h r k
  carried all r s k m p q x = subst (λ (y : Replied). Promised c all d h y k) (sym p) (subst (λ (y : List ℕ). Promised c all d h s y) (sym q) x)

  -- from what is left, word by word
  pub promised : (all : HeadLeft) (r : Replied) (k : List ℕ) → head_left r k ≡ all → PerformsInHead c d h all.result all.words → Promised c all d h r k
  promised all r k e x = record { exact = e; performs = subst (λ (y : HeadLeft). PerformsInHead c d h y.result y.words) (sym e) x }

  pub refused-performs : (n : ℕ) → (n ≡ 0 → ⊥) → (rings_formed d.audits (drop 113 h) ≡ true → (subs rows : List Row) → n ≡ (whether head_fits (length h) d then own_refusal (head_dest d h subs rows) c else 2))
      → PerformsInHead c d h (refused_as n d) h
  refused-performs n z e = record {
    long = refl;
    others = refl;
    kept = λ _. refl;
    refusal = e;
    fit = λ o. absurd (z o);
    formed = λ o. absurd (z o);
    answer = λ o. absurd (z o);
    done = λ o. absurd (z o);
  }

  -- the numbers do not fit the head
  pub unfit-performs : head_fits (length h) d ≡ false → PerformsInHead c d h (refused_as 2 d) h
  unfit-performs e = refused-performs 2 (λ z. omega arith) (λ _ subs rows. rw e)
