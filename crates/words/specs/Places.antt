-- Places of checking, one after another, and that a refusal's number comes exactly from them. Assumes nothing.
use Rattle.std.specs.Prelude.{ℕ, ◌≤◌, ◌≡◌, Bool, true, not, List, ◌∷◌, ◌++◌, ◌↔◌}
use Rattle.words.specs.Pick.{all}

-- a place of checking: its number, and whether it refuses
pub record CheckPlace : Type 0 where
  pub number : ℕ
  pub test : Bool

infix 70 ◌when◌
abbrev pub ◌when◌ : ℕ → Bool → CheckPlace
n when b = record { number = n; test = b }

abbrev pub passes : CheckPlace → Bool
passes p = not p.test

-- n comes from these places: one of that number refuses, and none before it does
pub record Comes (n : ℕ) (ps : List CheckPlace) : Type 0 where
  pub before : List CheckPlace
  pub here : CheckPlace
  pub after : List CheckPlace
  pub split : ps ≡ before ++ here ∷ after
  pub passed : all passes before ≡ true
  pub refuses : here.test ≡ true
  pub numbered : here.number ≡ n

-- a refusal has a number exactly if it comes from these places, and there is none exactly if no place refuses
pub record Exact (refusal : ℕ) (ps : List CheckPlace) : Type 0 where
  pub number : (n : ℕ) → 1 ≤ n → (refusal ≡ n) ↔ Comes n ps
  pub accepted : (refusal ≡ 0) ↔ (all passes ps ≡ true)
