-- A table that a function takes to the rules of the types with a name has at each place that place's rule, and past those types one rule holds.
-- Assumes nothing.
use mathlib.Core.Path.{◌≡◌, sym, ap, ◌∙◌}
use mathlib.Core.Bool.{false}
use mathlib.Core.List.{List, [], ◌∷◌, map}
use Prim.Native.Nat.{ℕ, zero, suc, ◌+◌, ◌≤◌, ◌<◌}
use native.Mathlib.Nat.{add-zero, zero-add, add-suc, suc-add, le_of_suc-le-suc, not-suc-le-zero}
use native.Mathlib.Omega.{arith}
use borrow.Author.Tests.{ne_eqb}
use lib.Dec.{eqb}
use lib.ListN.{get_or, get_or-map}
use Rattle.model.specs.declared.AckType.TheVariants.{Other}
use Rattle.model.specs.declared.AckRule.{AckRule}
use Rattle.model.specs.Model.{ack_type, rule_of, ack_rule}

-- the rules of n bytes, from i on
abbrev pub rules : ℕ → ℕ → List AckRule
rules i zero = []
rules i (suc n) = ack_rule i ∷ rules (suc i) n

rules-at : (i n k : ℕ) (d : AckRule) → k < n → get_or (rules i n) k d ≡ ack_rule (i + k)
rules-at i zero k d h = absurd (not-suc-le-zero h)
rules-at i (suc n) zero d h = ap ack_rule (sym (add-zero i))
rules-at i (suc n) (suc k) d h = rules-at (suc i) n k d (le_of_suc-le-suc h) ∙ ap ack_rule (suc-add i k ∙ sym (add-suc i k))

pub at : (f : ℕ → AckRule) (n : ℕ) (xs : List ℕ) → map f xs ≡ rules 0 n → (k : ℕ) → k < n → f (get_or xs k 0) ≡ ack_rule k
at f n xs e k h = sym (get_or-map f xs k 0) ∙ ap (λ (l : List AckRule). get_or l k (f 0)) e ∙ rules-at 0 n k (f 0) h ∙ ap ack_rule (zero-add k)

-- no type from 7 on has a name
pub unnamed : (k : ℕ) → 7 ≤ k → ack_rule k ≡ rule_of Other
unfolding ack_type ack_rule
unnamed k h = rw (other 0 (omega arith), other 1 (omega arith), other 2 (omega arith), other 3 (omega arith), other 4 (omega arith), other 5 (omega arith), other 6 (omega arith))
  where
    other : (j : ℕ) → j < k → eqb k j ≡ false
    other j l = ne_eqb k j (λ e. omega arith)
