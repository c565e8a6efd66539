-- A list after a run of stores, element by element. Assumes nothing.
use Prim.Native.Nat.{ℕ, zero, suc, ◌+◌, ◌≤◌, ◌<◌}
use native.Mathlib.Nat.{add-zero, add-suc, suc-add}
use native.Mathlib.Omega.{arith}
use mathlib.Core.Path.{◌≡◌, refl, sym, ◌∙◌}
use mathlib.Core.List.{List, [], ◌∷◌}
use lib.ListN.{length, get_or, take, set, length-set}
use lib.Seq.{sets, get_or-set_same, get_or-set_other, take-set-le}

pub sets-before : (vs l : List ℕ) (i j : ℕ) → j < i → get_or (sets l i vs) j 0 ≡ get_or l j 0
sets-before [] l i j h = refl
sets-before (a ∷ vs) l i j h = sets-before vs (set l i a) (suc i) j (omega arith) ∙ get_or-set_other l i j a 0 (λ e. omega arith)

pub sets-after : (vs l : List ℕ) (i j : ℕ) → i + length vs ≤ j → get_or (sets l i vs) j 0 ≡ get_or l j 0
sets-after [] l i j h = refl
sets-after (a ∷ vs) l i j h = sets-after vs (set l i a) (suc i) j (omega arith) ∙ get_or-set_other l i j a 0 (λ e. omega arith)

pub sets-in : (vs l : List ℕ) (i j : ℕ) → i + length vs ≤ length l → j < length vs → get_or (sets l i vs) (i + j) 0 ≡ get_or vs j 0
sets-in [] l i j h k = absurd (omega arith)
sets-in (a ∷ vs) l i zero h k = rw (add-zero i) (sets-before vs (set l i a) (suc i) i (omega arith) ∙ get_or-set_same l i a 0 (omega arith))
sets-in (a ∷ vs) l i (suc j) h k = rw (add-suc i j, sym (suc-add i j)) (sets-in vs (set l i a) (suc i) j (omega (arith, length-set l i a)) (omega arith))

pub take-sets : (vs l : List ℕ) (n i : ℕ) → n ≤ i → take n (sets l i vs) ≡ take n l
take-sets [] l n i h = refl
take-sets (a ∷ vs) l n i h = take-sets vs (set l i a) n (suc i) (omega arith) ∙ take-set-le n l i a h
