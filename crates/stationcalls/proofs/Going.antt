-- The tests before a call goes to its destination: what they leave to it, and that a sound station passes them. Assumes nothing.
use mathlib.Core.Path.{◌≡◌, refl, sym, ap, ◌∙◌}
use mathlib.Core.Bool.{Bool, true, false, not, ◌&&◌, ◌||◌, true≢false}
use Prim.Native.Nat.{ℕ, ◌<◌}
use native.Mathlib.Omega.{arith}
use borrow.Author.Tests.{ltb-false, le-ltb, not-true, not-false}
use lib.Dec.{ltb, eqb}
use Rattle.definition.specs.Base.{all, up_from}
use Rattle.definition.specs.Words.{at}
use Rattle.definition.specs.Layout.{flag}
use Rattle.definition.proofs.Tests.{by-test, and_left, and_right, and_both, or-no-left, or-no-right}
use Rattle.definition_station.specs.Layout.{StationBuffers, is_open, sound_station}
use Rattle.stationcalls.specs.Own.{own_words_ok, other_ok}
use Rattle.stationcalls.specs.Step.{stops_as}
use Rattle.stationcalls.proofs.Tested.{own-bad, other-bad}

module _ (b : StationBuffers) (k code : ℕ) where
  abbrev own_ok : Bool
  own_ok = own_words_ok b.own

  abbrev others_ok : Bool
  others_ok = all (other_ok b k) (up_from 0 8)

  abbrev away : Bool
  away = ltb 7 k || not (flag (at k b.own))

  -- ---- the tests one by one

  pub opens_not : eqb code 0 ≡ true → false ≡ stops_as b k code
  unfolding stops_as
  opens_not z = rw z

  pub away-not : eqb code 0 ≡ false → away ≡ true → false ≡ stops_as b k code
  unfolding stops_as
  away-not z a = rw (z, a)

  pub own-stops : eqb code 0 ≡ false → away ≡ false → own_ok ≡ false → true ≡ stops_as b k code
  unfolding stops_as
  own-stops z a o = rw (z, a, o)

  pub others-stop : eqb code 0 ≡ false → away ≡ false → own_ok ≡ true → not others_ok ≡ stops_as b k code
  unfolding stops_as
  others-stop z a o = rw (z, a, o)

  -- ---- what they say

  -- a sound station stops none
  pub sound-goes : sound_station b ≡ true → stops_as b k code ≡ false
  unfolding stops_as
  sound-goes y = never (eqb code 0) away (own_ok && others_ok) (and_both own_ok others_ok
      (by-test own_ok (λ t. t) (λ f. absurd (true≢false (sym y ∙ own-bad b k f))))
      (by-test others_ok (λ t. t) (λ f. absurd (true≢false (sym y ∙ other-bad b k f)))))
    where
      never : (z a t : Bool) → t ≡ true → (not z && (not a && not t)) ≡ false
      never true a t e = refl
      never false true t e = refl
      never false false t e = ap not e

  -- a call that is not stopped finds the own words and the others sound
  pub goes_on : stops_as b k code ≡ false → eqb code 0 ≡ false → k < 8 → is_open k b ≡ true → (own_ok ≡ true) × (others_ok ≡ true)
  unfolding stops_as
  goes_on e z g o = (and_left own_ok others_ok both, and_right own_ok others_ok both)
    where
      there : away ≡ false
      there = ap (λ (t : Bool). t || not (flag (at k b.own))) (le-ltb 7 k (omega (arith, g))) ∙ ap not o

      last : (z a t : Bool) → z ≡ false → a ≡ false → (not z && (not a && not t)) ≡ false → t ≡ true
      last z a t p q r = not-false t (sym (ap (λ (x : Bool). not x && (not a && not t)) p ∙ ap (λ (x : Bool). not x && not t) q) ∙ r)

      both : (own_ok && others_ok) ≡ true
      both = last (eqb code 0) away (own_ok && others_ok) z there e

  -- one that is stopped is on an open destination of a station that is not sound
  pub record Stops : Type 0 where
    pub coded : eqb code 0 ≡ false
    pub is-place : k < 8
    pub opened : is_open k b ≡ true
    pub unsound : sound_station b ≡ false

  pub stops : stops_as b k code ≡ true → Stops
  unfolding stops_as
  stops e = record {
    coded = not-true (eqb code 0) (and_left (not (eqb code 0)) _ tests);
    is-place = omega (arith, ltb-false 7 k (or-no-left (ltb 7 k) _ there));
    opened = not-false (flag (at k b.own)) (or-no-right (ltb 7 k) _ there);
    unsound = by-test (sound_station b) (λ y. absurd (true≢false (sym e ∙ sound-goes y))) (λ n. n);
  }
    where
      tests : (not (eqb code 0) && (not away && not (own_ok && others_ok))) ≡ true
      tests = e

      there : away ≡ false
      there = not-true away (and_left (not away) _ (and_right (not (eqb code 0)) _ tests))
