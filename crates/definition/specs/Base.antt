-- Tests and lists, as the definitions need them. Assumes nothing.
use Rattle.std.specs.Prelude.{ℕ, zero, suc, ◌+◌, Bool, true, false, not, ◌&&◌, ◌||◌, List, [], ◌∷◌, ltb, eqb}
use Rattle.std.proofs.Math.Option.{Option, none, some}
pub use Rattle.words.specs.Pick.{whether◌then◌else◌, all, every}

module _ {ℓ} {A : Type ℓ} where
  -- the elements that pass a test (`retain`, `filter`)
  abbrev pub keep : (A → Bool) → List A → List A
  keep p [] = []
  keep p (x ∷ xs) = whether p x then x ∷ keep p xs else keep p xs

  -- how many pass it
  abbrev pub tally : (A → Bool) → List A → ℕ
  tally p [] = 0
  tally p (x ∷ xs) = (whether p x then 1 else 0) + tally p xs

  -- the first that passes it (`position`, `find`)
  abbrev pub find : (A → Bool) → List A → Option A
  find p [] = none
  find p (x ∷ xs) = whether p x then some x else find p xs

  -- the list with v for the first that passes it
  abbrev pub put : (A → Bool) → A → List A → List A
  put p v [] = []
  put p v (x ∷ xs) = whether p x then v ∷ xs else x ∷ put p v xs

  abbrev pub nth : ℕ → List A → Option A
  nth n [] = none
  nth zero (x ∷ xs) = some x
  nth (suc n) (x ∷ xs) = nth n xs

  abbrev pub empty : List A → Bool
  empty [] = true
  empty (x ∷ xs) = false

  abbrev pub is_some : Option A → Bool
  is_some none = false
  is_some (some a) = true

abbrev pub member : ℕ → List ℕ → Bool
member k [] = false
member k (x ∷ xs) = eqb k x || member k xs

abbrev pub distinct : List ℕ → Bool
distinct [] = true
distinct (x ∷ xs) = not (member x xs) && distinct xs

-- each above the one before, and above k
abbrev pub rising : ℕ → List ℕ → Bool
rising k [] = true
rising k (x ∷ xs) = ltb k x && rising x xs

-- each above the one before
abbrev pub ascending : List ℕ → Bool
ascending [] = true
ascending (x ∷ xs) = rising x xs

-- from, from + 1, .. (count of them)
abbrev pub up_from : ℕ → ℕ → List ℕ
up_from from zero = []
up_from from (suc count) = from ∷ up_from (suc from) count
