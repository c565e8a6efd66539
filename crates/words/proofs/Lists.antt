-- The first places of a list and one more, read or stored there. Assumes nothing.
use mathlib.Core.Path.{◌≡◌, ap, ◌∙◌}
use mathlib.Core.List.{List, [], ◌∷◌, ◌++◌}
use Prim.Native.Nat.{ℕ, ◌+◌, ◌<◌}
use native.Mathlib.Numerals.{add-one}
use lib.ListN.{length, take, get_or, set}
use lib.Seq.{take-suc, take-suc-set}

module _ {A : Type 0} where
  pub take_next : (l : List A) (i : ℕ) (z : A) → i < length l → take (i + 1) l ≡ take i l ++ (get_or l i z ∷ [])
  take_next l i z h = ap (λ (n : ℕ). take n l) (add-one i) ∙ take-suc l i z h

  pub set_next : (l : List A) (i : ℕ) (a : A) → i < length l → take (i + 1) (set l i a) ≡ take i l ++ (a ∷ [])
  set_next l i a h = ap (λ (n : ℕ). take n (set l i a)) (add-one i) ∙ take-suc-set l i a h
