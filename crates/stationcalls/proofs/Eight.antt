-- Eight places, one after another. Assumes nothing.
use mathlib.Core.Path.{◌≡◌, refl, sym, ap, ◌∙◌, subst⁻¹}
use mathlib.Core.Bool.{Bool, true, false, not, ◌&&◌, ◌||◌}
use mathlib.Core.List.{List, ◌∷◌, ◌++◌}
use Prim.Native.Nat.{ℕ, zero, suc, ◌+◌, ◌-◌, ◌≤◌, ◌<◌, ◌^◌}
use native.Mathlib.Numerals.{add-one}
use native.Mathlib.Omega.{arith}
use borrow.Author.Tests.{eq-eqb, ne_eqb, le-leb, lt-leb, lt-ltb, le-ltb, leb-true, leb-false}
use lib.Dec.{leb, ltb}
use lib.ListN.{length, drop, get_or, set, length-set, replicate, length-replicate}
use lib.Seq.{drop-cons, set_at}
use Rattle.definition.specs.Base.{all, up_from}
use Rattle.definition.specs.Words.{at}
use Rattle.definition.specs.Layout.{flag, is_mark, sound_buffers}
use Rattle.definition.proofs.Tests.{by-test}
use Rattle.stationcalls.specs.Own.{place_ok, given_ok, own_words_ok, part_ok, other_ok}
use Rattle.definition_station.specs.Layout.{StationBuffers, part, is_open}

-- what is left to look at, from k on
abbrev pub from_on : (ℕ → Bool) → ℕ → Bool
from_on p k = all p (up_from k (8 - k))

pub from-turn : (p : ℕ → Bool) (k : ℕ) → k < 8 → from_on p k ≡ (p k && from_on p (k + 1))
from-turn p k h = ap (λ (n : ℕ). all p (up_from k n)) more ∙ ap (λ (m : ℕ). p k && all p (up_from m (8 - (k + 1)))) (sym (add-one k))
  where
    more : 8 - k ≡ suc (8 - (k + 1))
    more = omega (arith, h)

pub from_next : (p : ℕ → Bool) (k : ℕ) → k < 8 → p k ≡ true → from_on p (k + 1) ≡ from_on p k
from_next p k h e = sym (from-turn p k h ∙ ap (λ (x : Bool). x && from_on p (k + 1)) e)

pub from-stop : (p : ℕ → Bool) (k : ℕ) → k < 8 → p k ≡ false → from_on p k ≡ false
from-stop p k h e = from-turn p k h ∙ ap (λ (x : Bool). x && from_on p (k + 1)) e

pub from_end : (p : ℕ → Bool) (k : ℕ) → 8 ≤ k → from_on p k ≡ true
from_end p k h = ap (λ (n : ℕ). all p (up_from k n)) none_left
  where
    none_left : 8 - k ≡ 0
    none_left = omega (arith, h)

-- ---- own words

module _ (own : List ℕ) where
  pub place-closed : (k : ℕ) → at k own ≡ 0 → true ≡ place_ok own k
  unfolding place_ok
  place-closed k e = sym (ap (λ (n : ℕ). is_mark n && (not (flag n) || leb (at (8 + k) own) 8)) e)

  pub place-bad : (k : ℕ) → (at k own ≡ 0 → ⊥) → (at k own ≡ 1 → ⊥) → false ≡ place_ok own k
  unfolding place_ok
  place-bad k z o = sym (ap (λ (x : Bool). x && (not (flag (at k own)) || leb (at (8 + k) own) 8)) (lt-leb (at k own) 1 above))
    where
      above : 1 < at k own
      above = omega (arith, z, o)

  pub place-open : (k : ℕ) → at k own ≡ 1 → leb (at (8 + k) own) 8 ≡ place_ok own k
  unfolding place_ok
  place-open k e = sym (ap (λ (n : ℕ). is_mark n && (not (flag n) || leb (at (8 + k) own) 8)) e)

  pub own-stop : (k : ℕ) → k < 8 → from_on (place_ok own) k ≡ from_on (place_ok own) 0 → place_ok own k ≡ false → false ≡ own_words_ok own
  unfolding own_words_ok
  own-stop k h i e = sym (ap (λ (x : Bool). x && given_ok own) (sym i ∙ from-stop (place_ok own) k h e))

  places-done : (k : ℕ) → 8 ≤ k → from_on (place_ok own) k ≡ from_on (place_ok own) 0 → own_words_ok own ≡ given_ok own
  unfolding own_words_ok
  places-done k h i = ap (λ (x : Bool). x && given_ok own) (sym i ∙ from_end (place_ok own) k h)

  pub next-zero : (k : ℕ) → 8 ≤ k → from_on (place_ok own) k ≡ from_on (place_ok own) 0 → at 16 own < 1 → false ≡ own_words_ok own
  unfolding given_ok
  next-zero k h i l = sym (places-done k h i ∙ ap (λ (x : Bool). x && (leb (at 16 own) (2 ^ 63) && ltb (at 17 own) (2 ^ 63))) (lt-leb 1 (at 16 own) l))

  pub next_past : (k : ℕ) → 8 ≤ k → from_on (place_ok own) k ≡ from_on (place_ok own) 0 → 1 ≤ at 16 own → 9223372036854775808 < at 16 own → false ≡ own_words_ok own
  unfolding given_ok
  next_past k h i l g = sym (places-done k h i ∙ ap (λ (x : Bool). x && (leb (at 16 own) (2 ^ 63) && ltb (at 17 own) (2 ^ 63))) (le-leb 1 (at 16 own) l) ∙ ap (λ (x : Bool). x && ltb (at 17 own) (2 ^ 63)) (lt-leb (at 16 own) (2 ^ 63) g))

  pub next-right : (k : ℕ) → 8 ≤ k → from_on (place_ok own) k ≡ from_on (place_ok own) 0 → 1 ≤ at 16 own → at 16 own ≤ 9223372036854775808 → leb (at 17 own) 9223372036854775807 ≡ own_words_ok own
  unfolding given_ok
  next-right k h i l g = sym (places-done k h i ∙ ap (λ (x : Bool). x && (leb (at 16 own) (2 ^ 63) && ltb (at 17 own) (2 ^ 63))) (le-leb 1 (at 16 own) l) ∙ ap (λ (x : Bool). x && ltb (at 17 own) (2 ^ 63)) (le-leb (at 16 own) (2 ^ 63) g) ∙ last)
    where
      last : ltb (at 17 own) (2 ^ 63) ≡ leb (at 17 own) 9223372036854775807
      last = by-test (leb (at 17 own) 9223372036854775807)
          (λ y. lt-ltb (at 17 own) (2 ^ 63) (omega (arith, leb-true (at 17 own) 9223372036854775807 y)) ∙ sym y)
          (λ n. le-ltb (at 17 own) (2 ^ 63) (omega (arith, leb-false (at 17 own) 9223372036854775807 n)) ∙ sym n)

-- ---- a start

pub record Clearing (before now : List ℕ) (k : ℕ) : Type 0 where
  pub few : k ≤ 16
  pub long : 20 ≤ length before
  pub is : now ≡ replicate k 0 ++ drop k before
  pub same : length now ≡ length before

pub clear_none : (before : List ℕ) → 20 ≤ length before → Clearing before before 0
clear_none before h = record { few = omega (arith); long = h; is = refl; same = refl }

replicate-on : (k : ℕ) (l : List ℕ) → replicate k 0 ++ (0 ∷ l) ≡ replicate (suc k) 0 ++ l
replicate-on zero l = refl
replicate-on (suc k) l = ap (λ (m : List ℕ). 0 ∷ m) (replicate-on k l)

pub clear-turn : (before now : List ℕ) (k : ℕ) → Clearing before now k → k < 16 → Clearing before (set now k 0) (k + 1)
clear-turn before now k c h = subst⁻¹ (λ (m : ℕ). Clearing before (set now k 0) m) (add-one k) record {
  few = h;
  long = c.long;
  is = ap (λ (l : List ℕ). set l k 0) (c.is ∙ ap (λ (l : List ℕ). replicate k 0 ++ l) (drop-cons before k 0 there)) ∙ set_at (replicate k 0) (get_or before k 0) (drop (suc k) before) 0 k (length-replicate k 0) ∙ replicate-on k (drop (suc k) before);
  same = length-set now k 0 ∙ c.same;
}
  where
    there : k < length before
    there = omega (arith, h, c.long)

pub cleared : (before now : List ℕ) (k : ℕ) → Clearing before now k → 16 ≤ k → set (set now 16 1) 17 0 ≡ replicate 16 0 ++ (1 ∷ 0 ∷ drop 18 before)
cleared before now k c h =
    ap (λ (l : List ℕ). set (set l 16 1) 17 0) (c.is ∙ ap (λ (m : ℕ). replicate m 0 ++ drop m before) end ∙ ap (λ (l : List ℕ). replicate 16 0 ++ l) (drop-cons before 16 0 (omega (arith, c.long)) ∙ ap (λ (l : List ℕ). get_or before 16 0 ∷ l) (drop-cons before 17 0 (omega (arith, c.long)))))
  where
    end : k ≡ 16
    end = omega (arith, h, c.few)

-- ---- the other destinations

module _ (b : StationBuffers) (but k : ℕ) where
  pub other-called : k ≡ but → true ≡ other_ok b but k
  unfolding other_ok
  other-called e = sym (ap (λ (x : Bool). x || part_ok b k) (eq-eqb k but e))

  pub other-closed : (k ≡ but → ⊥) → is_open k b ≡ false → true ≡ other_ok b but k
  unfolding other_ok part_ok
  other-closed n o = sym (ap (λ (x : Bool). x || part_ok b k) (ne_eqb k but n) ∙ ap (λ (x : Bool). not x || sound_buffers (part k b)) o)

  pub other-open : (k ≡ but → ⊥) → is_open k b ≡ true → sound_buffers (part k b) ≡ other_ok b but k
  unfolding other_ok part_ok
  other-open n o = sym (ap (λ (x : Bool). x || part_ok b k) (ne_eqb k but n) ∙ ap (λ (x : Bool). not x || sound_buffers (part k b)) o)

pub number-high : (own : List ℕ) (k : ℕ) → 7 < k → true ≡ (ltb 7 k || not (flag (at k own)))
number-high own k h = sym (ap (λ (x : Bool). x || not (flag (at k own))) (lt-ltb 7 k h))

pub number-low : (own : List ℕ) (k : ℕ) → k ≤ 7 → not (flag (at k own)) ≡ (ltb 7 k || not (flag (at k own)))
number-low own k h = sym (ap (λ (x : Bool). x || not (flag (at k own))) (le-ltb 7 k h))
