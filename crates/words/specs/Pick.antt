-- A choice by a test, written as the Rust writes it, every test of a list, and equal lists. Assumes nothing.
use Rattle.std.specs.Prelude.{ℕ, Bool, true, false, ◌&&◌, List, [], ◌∷◌, eqb}

module _ {ℓ} {A : Type ℓ} where
  infixr 10 whether◌then◌else◌
  abbrev pub whether◌then◌else◌ : Bool → A → A → A
  whether true then x else y = x
  whether false then x else y = y

  -- each passes a test
  abbrev pub all : (A → Bool) → List A → Bool
  all p [] = true
  all p (x ∷ xs) = p x && all p xs

abbrev pub every : List Bool → Bool
every [] = true
every (b ∷ bs) = b && every bs

abbrev pub same_numbers : List ℕ → List ℕ → Bool
same_numbers [] [] = true
same_numbers [] (b ∷ bs) = false
same_numbers (a ∷ l) [] = false
same_numbers (a ∷ l) (b ∷ m) = eqb a b && same_numbers l m
