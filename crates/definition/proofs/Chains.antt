-- What an iterator's `all`, `any`, `position`, and `filter` with `count` answer, in the words of the definitions; the list that `&rows[from..to]` has. Assumes nothing.
use Rattle.std.proofs.Common.{arith, ◌≡◌, refl, ap, ◌∙◌, ℕ, ◌+◌, ◌≤◌, Option, Some, None, Bool, true, false, not, cond, ◌&&◌, ◌||◌, ltb, suc, List, [], ◌∷◌, length, take, drop, ◌-◌}
use Rattle.std.specs.List.{list_all, list_any, filter, position_or_len}
use Rattle.std.specs.List.{slice_range}
use Rattle.std.proofs.lemmas.List.{drop-take}
use Rattle.std.proofs.Math.Seq.{slice}
use Rattle.words.specs.Pick.{whether◌then◌else◌, all}
use Rattle.definition.specs.Base.{tally, keep, empty}

whether-cond : {B : Type 0} (b : Bool) (x y : B) → cond b x y ≡ (whether b then x else y)
whether-cond true x y = refl
whether-cond false x y = refl

length-whether : {B : Type 0} (b : Bool) (x : B) (xs : List B) (n : ℕ) → length xs ≡ n → length (cond b (x ∷ xs) xs) ≡ (whether b then 1 else 0) + n
length-whether true x xs n e = omega (arith, e)
length-whether false x xs n e = omega (arith, e)

any-whether : {B : Type 0} (b : Bool) (x : B) (xs : List B) (r : Bool) → r ≡ not (empty xs) → (b || r) ≡ not (empty (whether b then x ∷ xs else xs))
any-whether true x xs r e = refl
any-whether false x xs r e = e

module _ {A : Type 0} (p : A → Bool) where
  pub list_all-all : (xs : List A) → list_all p xs ≡ all p xs
  list_all-all [] = refl
  list_all-all (x ∷ xs) = ap (λ (b : Bool). p x && b) (list_all-all xs)

  pub filter-keep : (xs : List A) → filter p xs ≡ keep p xs
  filter-keep [] = refl
  filter-keep (x ∷ xs) = whether-cond (p x) (x ∷ filter p xs) (filter p xs) ∙ ap (λ (ys : List A). whether p x then x ∷ ys else ys) (filter-keep xs)

  pub length-filter-tally : (xs : List A) → length (filter p xs) ≡ tally p xs
  length-filter-tally [] = refl
  length-filter-tally (x ∷ xs) = length-whether (p x) x (filter p xs) (tally p xs) (length-filter-tally xs)

  pub list_any-keep : (xs : List A) → list_any p xs ≡ not (empty (keep p xs))
  list_any-keep [] = refl
  list_any-keep (x ∷ xs) = any-whether (p x) x (keep p xs) (list_any p xs) (list_any-keep xs)

-- the rows of `rows[a..b]`
pub slice-range : {A : Type 0} (a b : ℕ) (xs : List A) → a ≤ b → slice a b xs ≡ slice_range xs a b
slice-range a b xs h = ap (λ (m : ℕ). drop a (take m xs)) (omega (arith, h)) ∙ drop-take a (b - a) xs
