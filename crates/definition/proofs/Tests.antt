-- Laws of tests: by cases of an if. Assumes nothing.
use mathlib.Core.Path.{◌≡◌, refl}
use mathlib.Core.Bool.{Bool, true, false}
use Rattle.definition.specs.Base.{whether◌then◌else◌}
-- by cases on a test, with what it came to; and tests joined
pub use Rattle.words.proofs.Tests.{by-test, if-true, if-false, and_left, and_right, and_both, and-false, or-no-left, or-no-right}

-- a property of an if by its two cases, with what the test came to. (`rw` by a test that is a field of a record puts its value into the record everywhere.)
pub by-if {ℓ κ} : {A : Type ℓ} (P : A → Type κ) (b : Bool) (x y : A) → (b ≡ true → P x) → (b ≡ false → P y) → P (whether◌then◌else◌ b x y)
by-if P true x y f g = f refl
by-if P false x y f g = g refl
