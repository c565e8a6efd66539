-- One part of a list is lent and comes back changed, as long as it was: itself, the parts beside it, and the end. Assumes nothing.
use mathlib.Core.Path.{◌≡◌, sym, ap, ◌∙◌, subst}
use mathlib.Core.List.{List, ◌++◌, append_assoc}
use Prim.Native.Nat.{ℕ, ◌+◌, ◌-◌, ◌≤◌}
use native.Mathlib.Omega.{arith}
use lib.ListN.{length, take, drop, length-append, length-drop}
use lib.Seq.{length-take-le, take_at, drop_at, take-append-le, drop-drop, take-add, slice, take-take}

-- what is lent
pub lent_is : {A : Type 0} (l : List A) (a w : ℕ) → a + w ≤ length l → take w (drop a l) ≡ slice a (a + w) l
lent_is {A} l a w fits = sym (drop_at (take a l) (take w (drop a l)) a (length-take-le a l front)) ∙ ap (λ (t : List A). drop a t) (sym (take-add a w l))
  where
    front : a ≤ length l
    front = omega (arith, fits)

module _ {A : Type 0} (l : List A) (a w : ℕ) (fits : a + w ≤ length l) where
  module _ (later : List A) (as_long : length later ≡ w) where
    -- the whole, once it is back
    abbrev pub back : List A
    back = take a l ++ (later ++ drop w (drop a l))

    front : a ≤ length l
    front = omega (arith, fits)

    front_length : length (take a l) ≡ a
    front_length = length-take-le a l front

    two-length : length (take a l ++ later) ≡ a + w
    two-length = length-append (take a l) later ∙ ap (λ (n : ℕ). n + length later) front_length ∙ ap (λ (n : ℕ). a + n) as_long

    two : back ≡ (take a l ++ later) ++ drop (a + w) l
    two = sym (append_assoc (take a l) later (drop w (drop a l))) ∙ ap (λ (t : List A). (take a l ++ later) ++ t) (drop-drop w a l)

    pub back-here : slice a (a + w) back ≡ later
    back-here =
        ap (λ (t : List A). slice a (a + w) t) two
        ∙ ap (λ (t : List A). drop a t) (take_at (take a l ++ later) (drop (a + w) l) (a + w) two-length)
        ∙ drop_at (take a l) later a front_length

    -- a part before it
    pub back-before : (c e : ℕ) → e ≤ a → slice c e back ≡ slice c e l
    back-before c e h = ap (λ (t : List A). drop c t) (take-append-le e (take a l) (later ++ drop w (drop a l)) (subst (λ (n : ℕ). e ≤ n) (sym front_length) h) ∙ take-take e a l h)

    -- what comes after it
    pub back-past : (n : ℕ) → a + w ≤ n → drop n back ≡ drop n l
    back-past n h =
        ap (λ (t : List A). drop n t) two
        ∙ sym (ap (λ (m : ℕ). drop m ((take a l ++ later) ++ drop (a + w) l)) there)
        ∙ sym (drop-drop (n - (a + w)) (a + w) ((take a l ++ later) ++ drop (a + w) l))
        ∙ ap (λ (t : List A). drop (n - (a + w)) t) (drop_at (take a l ++ later) (drop (a + w) l) (a + w) two-length)
        ∙ drop-drop (n - (a + w)) (a + w) l
        ∙ ap (λ (m : ℕ). drop m l) there
      where
        there : (a + w) + (n - (a + w)) ≡ n
        there = omega (arith, h)

    pub back-length : length back ≡ length l
    back-length =
        ap length two
        ∙ length-append (take a l ++ later) (drop (a + w) l)
        ∙ ap (λ (n : ℕ). n + length (drop (a + w) l)) two-length
        ∙ ap (λ (n : ℕ). (a + w) + n) (length-drop (a + w) l)
        ∙ all
      where
        all : (a + w) + (length l - (a + w)) ≡ length l
        all = omega (arith, fits)

    -- a part after it
    pub back-after : (c : ℕ) → a + w ≤ c → c + w ≤ length l → slice c (c + w) back ≡ slice c (c + w) l
    back-after c h k =
        sym (lent_is back c w (subst (λ (n : ℕ). c + w ≤ n) (sym back-length) k))
        ∙ ap (λ (t : List A). take w t) (back-past c h)
        ∙ lent_is l c w k
