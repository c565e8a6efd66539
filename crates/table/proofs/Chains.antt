-- What `position`, `any` and `copy_within` give, in the words of the definitions. Assumes nothing.
use mathlib.Core.Path.{◌≡◌, refl, sym, ap, ap₂, ◌∙◌}
use mathlib.Core.Logic.{◌⊎◌, inl, inr}
use mathlib.Core.Bool.{Bool, cond, ◌||◌}
use mathlib.Core.List.{List, [], ◌∷◌, ◌++◌, append_assoc}
use Prim.Native.Nat.{ℕ, suc, ◌+◌, ◌-◌, ◌≤◌, ◌<◌}
use native.Mathlib.Omega.{arith}
use borrow.Author.Tests.{lt-ltb, le-ltb, ltb-true, ltb-false}
use lib.Dec.{eqb, leb, ltb}
use lib.ListN.{length, take, drop, get_or}
use Rattle.std.specs.Prelude.{Option, Some, None}
use Rattle.std.specs.List.{copy_within, list_any, position_or_len}
use Rattle.words.proofs.Tests.{by-test}
use Rattle.definition.specs.Layout.{Row}
use Rattle.definition.proofs.Chains.{slice-range}
use Rattle.table.specs.Table.{closed, lifted, find_from, holds_seq, place_from}

-- `get` of a range gives nothing
pub no-part : (from to n : ℕ) → (to < from) ⊎ (n < to) → from ≤ to → to ≤ n → ⊥
no-part from to n s h b = elim s [ inl p ↦ omega arith | inr p ↦ omega arith ]

-- ---- the first row that passes a test, where the first of all stands at i

abbrev first : ℕ → ℕ → ℕ → Option ℕ
first i k m = cond (ltb k m) (Some (i + k)) None

first-here : (i k m : ℕ) → k ≡ 0 → 0 < m → first i k m ≡ Some i
first-here i k m e h = rw (lt-ltb k m (omega arith)) (ap Some (omega arith))

first-later : (i k m a b : ℕ) → a ≡ 1 + k → b ≡ 1 + m → first i a b ≡ first (suc i) k m
first-later i k m a b e f = by-test (ltb k m)
    (λ t. let h : a < b = omega (arith, ltb-true k m t) in rw (t, lt-ltb a b h) (ap Some (omega arith)))
    (λ t. let h : b ≤ a = omega (arith, ltb-false k m t) in rw (t, le-ltb a b h))

module _ (seq : ℕ) where
  abbrev pub has : Row → Bool
  has r = eqb (get_or r 0 0) seq

  pub find-first : (i : ℕ) (rs : List Row) → first i (position_or_len has rs) (length rs) ≡ find_from i seq rs
  unfolding find_from
  find-first i [] = refl
  find-first i (r ∷ rs) =
      let k : ℕ = position_or_len has (r ∷ rs) in
      by-test (has r)
      (λ t. first-here i k (length (r ∷ rs)) (rw t) (omega arith) ∙ sym (rw t))
      (λ t. first-later i (position_or_len has rs) (length rs) k (length (r ∷ rs)) (rw t) (omega arith) ∙ find-first (suc i) rs ∙ sym (rw t))

  abbrev pub reaches : Row → Bool
  reaches r = leb seq (get_or r 0 0)

  pub place-first : (i : ℕ) (rs : List Row) → i + position_or_len reaches rs ≡ place_from i seq rs
  unfolding place_from
  place-first i [] = omega arith
  place-first i (r ∷ rs) =
      let k : ℕ = position_or_len reaches (r ∷ rs) in
      by-test (reaches r)
      (λ t. let e : k ≡ 0 = rw t in rw t (omega arith))
      (λ t. let e : k ≡ 1 + position_or_len reaches rs = rw t in rw t (omega (arith, place-first (suc i) rs)))

  pub any-holds : (rs : List Row) → list_any (λ r. eqb seq (get_or r 0 0)) rs ≡ holds_seq seq rs
  any-holds [] = refl
  any-holds (r ∷ rs) = ap (λ (b : Bool). eqb seq (get_or r 0 0) || b) (any-holds rs)

-- what `position` answered, by its answer
pub first-some : (i k m j : ℕ) (r : Option ℕ) → r ≡ cond (ltb k m) (Some k) None → r ≡ Some j → first i k m ≡ Some (i + j)
first-some i k m j r e s = by-test (ltb k m)
    (λ t. let q : Some k ≡ Some j = rw t at (sym e ∙ s) in let z : k ≡ j = cc in rw t (ap Some (omega arith)))
    (λ t. let q : None ≡ Some j = rw t at (sym e ∙ s) in cc)

pub first-none : (i k m : ℕ) (r : Option ℕ) → r ≡ cond (ltb k m) (Some k) None → r ≡ None → first i k m ≡ None
first-none i k m r e s = by-test (ltb k m)
    (λ t. let q : Some k ≡ None = rw t at (sym e ∙ s) in cc)
    (λ t. rw t)

pub at-some : (k m j : ℕ) (r : Option ℕ) → r ≡ cond (ltb k m) (Some k) None → r ≡ Some j → k ≡ j
at-some k m j r e s = by-test (ltb k m)
    (λ t. let q : Some k ≡ Some j = rw t at (sym e ∙ s) in cc)
    (λ t. let q : None ≡ Some j = rw t at (sym e ∙ s) in cc)

pub at-none : (k m : ℕ) (r : Option ℕ) → r ≡ cond (ltb k m) (Some k) None → r ≡ None → k ≤ m → k ≡ m
at-none k m r e s h = by-test (ltb k m)
    (λ t. let q : Some k ≡ None = rw t at (sym e ∙ s) in cc)
    (λ t. omega (arith, ltb-false k m t))

pub place-most : (p : Row → Bool) (rs : List Row) → position_or_len p rs ≤ length rs
place-most p [] = omega arith
place-most p (r ∷ rs) = by-test (p r) (λ t. rw t (omega arith)) (λ t. rw t (omega (arith, place-most p rs)))

-- ---- rows that are moved

pub copied-down : (at k n : ℕ) (rs : List Row) → at + k ≤ n → copy_within rs (at + k) n at ≡ closed at k n rs
unfolding closed
copied-down at k n rs h =
    let u : at + (n - (at + k)) ≡ n - k = omega arith in
    append_assoc (take at rs) (take (n - (at + k)) (drop (at + k) rs)) (drop (at + (n - (at + k))) rs)
    ∙ ap₂ (λ (x : List Row) (m : ℕ). take at rs ++ (x ++ drop m rs)) (sym (slice-range (at + k) n rs h)) u

pub copied-up : (at k n : ℕ) (rs : List Row) → at ≤ n → copy_within rs at n (at + k) ≡ lifted at k n rs
unfolding lifted
copied-up at k n rs h =
    let u : at + k + (n - at) ≡ n + k = omega arith in
    append_assoc (take (at + k) rs) (take (n - at) (drop at rs)) (drop (at + k + (n - at)) rs)
    ∙ ap₂ (λ (x : List Row) (m : ℕ). take (at + k) rs ++ (x ++ drop m rs)) (sym (slice-range at n rs h)) u
