-- Tests joined by `&&`: cases, and what a turn of a loop over a list's part makes of `all`. Assumes nothing.
use mathlib.Core.Path.{◌≡◌, refl, sym, ap, ◌∙◌}
use mathlib.Core.Bool.{Bool, true, false, ◌&&◌}
use mathlib.Core.List.{List, [], ◌∷◌, map}
use Prim.Native.Nat.{ℕ, zero, suc, ◌+◌, ◌≤◌, ◌<◌}
use native.Mathlib.Numerals.{add-one}
use native.Mathlib.Omega.{arith}
use lib.Dec.{eqb, eqb-suc-zero}
use lib.ListN.{length, get_or, take, drop}
use lib.Seq.{slice, slice_empty, slice-cons, take-add, drop_at, length-take-le}
use Rattle.definition.specs.Base.{all, empty}

pub swap_inner : (a b c d : Bool) → ((a && b) && (c && d)) ≡ ((a && c) && (b && d))
swap_inner true b true d = refl
swap_inner true true false d = refl
swap_inner true false false d = refl
swap_inner false b c d = refl

module _ {A : Type 0} where
  -- the part from i on
  pub part-turn : (l : List A) (i n : ℕ) (z : A) → i < n → n ≤ length l → slice i n l ≡ get_or l i z ∷ slice (i + 1) n l
  part-turn l i n z h k = slice-cons i n l z h k ∙ ap (λ (j : ℕ). get_or l i z ∷ slice j n l) (sym (add-one i))

  pub part_end : (l : List A) (i n : ℕ) → i ≡ n → slice i n l ≡ []
  part_end l i n e = ap (λ (j : ℕ). slice j n l) e ∙ slice_empty n l

  -- n elements from place f on
  pub part_of : (l : List A) (f n : ℕ) → f ≤ length l → slice f (f + n) l ≡ take n (drop f l)
  part_of l f n h = ap (drop f) (take-add f n l) ∙ drop_at (take f l) (take n (drop f l)) f (length-take-le f l h)

  pub empty-take : (n : ℕ) (l : List A) → n ≤ length l → eqb n 0 ≡ empty (take n l)
  empty-take zero l h = refl
  empty-take (suc n) [] h = absurd (omega arith)
  empty-take (suc n) (x ∷ l) h = eqb-suc-zero n

  -- a test of each element, from i on
  module _ (p : A → Bool) (l : List A) (i n : ℕ) (z : A) (k : n ≤ length l) (total : Bool) (e : all p (slice i n l) ≡ total) where
    all-turn : i < n → (p (get_or l i z) && all p (slice (i + 1) n l)) ≡ total
    all-turn h = sym (ap (all p) (part-turn l i n z h k)) ∙ e

    pub all-stop : i < n → p (get_or l i z) ≡ false → false ≡ total
    all-stop h q = sym (ap (λ (b : Bool). b && all p (slice (i + 1) n l)) q) ∙ all-turn h

    pub all-next : i < n → p (get_or l i z) ≡ true → all p (slice (i + 1) n l) ≡ total
    all-next h q = sym (ap (λ (b : Bool). b && all p (slice (i + 1) n l)) q) ∙ all-turn h

    pub all_end : i ≡ n → true ≡ total
    all_end q = sym (ap (all p) (part_end l i n q)) ∙ e

pub all_map : {A B : Type 0} (p : B → Bool) (f : A → B) (l : List A) → all p (map f l) ≡ all (λ a. p (f a)) l
all_map p f [] = refl
all_map p f (a ∷ l) = ap (λ (b : Bool). p (f a) && b) (all_map p f l)
