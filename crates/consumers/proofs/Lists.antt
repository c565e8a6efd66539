-- Lists that a loop goes along or changes, one element a turn: the first n of a list from a place on, a function put to the first of them, an
-- element taken out; and a sum with a bound. Assumes nothing.
use mathlib.Core.Path.{◌≡◌, refl, sym, ap, ap₂, ◌∙◌}
use mathlib.Core.List.{List, [], ◌∷◌, ◌++◌, append_assoc, append-nil, map, map-append}
use Prim.Native.Nat.{ℕ, zero, suc, ◌+◌, ◌-◌, ◌≤◌, ◌<◌, min}
use native.Mathlib.Nat.{zero-min, min-zero, suc-min-suc}
use native.Mathlib.Numerals.{add-one}
use native.Mathlib.Omega.{arith}
use lib.ListN.{length, take, drop, get_or, set, length-take, length-map, drop_of_length-le}
use lib.Seq.{slice, length-take-le, take-suc, take-length, drop-cons, drop-append-le, get_or-take, get_or_at, append_snoc, set_at}
use Rattle.definition.specs.Layout.{Row}
use Rattle.std.specs.List.{copy_within}
use Rattle.definition.proofs.Chains.{slice-range}
use Rattle.consumers.specs.Table.{taken_out, on_first}

module _ {ℓ} {A : Type ℓ} where
  -- the first n from place i on: the one at i and those after it, or none
  pub first_next : (i n : ℕ) (l : List A) (z : A) → i < min n (length l) → slice i n l ≡ get_or l i z ∷ slice (i + 1) n l
  first_next i n l z h =
      let k : i < length (take n l) = rw (length-take n l) h in
      let e : i < n = omega arith in
      drop-cons (take n l) i z k ∙ ap₂ (λ (x : A) (m : ℕ). x ∷ slice m n l) (get_or-take n l i z e) (sym (add-one i))

  pub first_ended : (i n : ℕ) (l : List A) → min n (length l) ≤ i → slice i n l ≡ []
  first_ended i n l h = drop_of_length-le (take n l) {i = i} (rw (length-take n l) h)

  -- the part up to place i, one longer
  slice_snoc : (f i : ℕ) (l : List A) (z : A) → f ≤ i → i < length l → slice f (suc i) l ≡ slice f i l ++ (get_or l i z ∷ [])
  slice_snoc f i l z h k =
      ap (drop f) (take-suc l i z k) ∙ drop-append-le f (take i l) (get_or l i z ∷ []) (rw (length-take-le i l (omega arith)) h)

-- ---- a function put to the first rows

pub on_none : (f : Row → Row) (l : List Row) → l ≡ on_first f 0 l
unfolding on_first
on_none f l = refl

on-split : (f : Row → Row) (i : ℕ) (l : List Row) → i < length l → on_first f i l ≡ map f (take i l) ++ get_or l i [] ∷ drop (suc i) l
unfolding on_first
on-split f i l h = ap (λ (x : List Row). map f (take i l) ++ x) (drop-cons l i [] h)

on-head : (f : Row → Row) (i : ℕ) (l : List Row) → i < length l → length (map f (take i l)) ≡ i
on-head f i l h = length-map (take i l) f ∙ length-take-le i l (omega arith)

pub on-at : (f : Row → Row) (i : ℕ) (l now : List Row) → i < length l → now ≡ on_first f i l → get_or now i [] ≡ get_or l i []
on-at f i l now h q = ap (λ (x : List Row). get_or x i []) (q ∙ on-split f i l h) ∙ get_or_at (map f (take i l)) (get_or l i []) (drop (suc i) l) [] i (on-head f i l h)

pub on-turn : (f : Row → Row) (i : ℕ) (l now : List Row) → i < length l → now ≡ on_first f i l → set now i (f (get_or now i [])) ≡ on_first f (i + 1) l
unfolding on_first
on-turn f i l now h q =
    let v : Row = f (get_or l i []) in
    ap (λ (x : Row). set now i (f x)) (on-at f i l now h q)
    ∙ ap (λ (x : List Row). set x i v) (q ∙ on-split f i l h)
    ∙ set_at (map f (take i l)) (get_or l i []) (drop (suc i) l) v i (on-head f i l h)
    ∙ sym (append_snoc (map f (take i l)) v (drop (suc i) l))
    ∙ ap (λ (x : List Row). x ++ drop (suc i) l) (sym (ap (map f) (take-suc l i [] h) ∙ map-append f (take i l) (get_or l i [] ∷ [])))
    ∙ ap (λ (m : ℕ). map f (take m l) ++ drop m l) (sym (add-one i))

-- past the first n nothing is changed
pub on-past : (f : Row → Row) (n m : ℕ) (ws : List Row) → n ≤ m → drop m (on_first f n ws) ≡ drop m ws
unfolding on_first
on-past f zero m ws h = refl
on-past f (suc n) m [] h = refl
on-past f (suc n) zero (w ∷ ws) h = absurd (omega arith)
on-past f (suc n) (suc m) (w ∷ ws) h = on-past f n m ws (omega arith)

-- the first n are those that there are
same-take : (n : ℕ) (l : List Row) → take (min n (length l)) l ≡ take n l
same-take zero l = rw (zero-min (length l))
same-take (suc n) [] = rw (min-zero (suc n))
same-take (suc n) (x ∷ l) = rw (suc-min-suc n (length l)) (ap (λ (y : List Row). x ∷ y) (same-take n l))

same_drop : (n : ℕ) (l : List Row) → drop (min n (length l)) l ≡ drop n l
same_drop zero l = rw (zero-min (length l))
same_drop (suc n) [] = rw (min-zero (suc n))
same_drop (suc n) (x ∷ l) = rw (suc-min-suc n (length l)) (same_drop n l)

pub on-all : (f : Row → Row) (i n : ℕ) (l : List Row) → i ≡ min n (length l) → on_first f i l ≡ on_first f n l
unfolding on_first
on-all f i n l e = ap (λ (m : ℕ). on_first f m l) e ∙ ap₂ (λ (x y : List Row). map f x ++ y) (same-take n l) (same_drop n l)

-- the first n lent, and each of them changed
pub on-lent : (f : Row → Row) (i m n : ℕ) (l now : List Row) → m ≡ min n (length l) → i ≡ length (take m l) → now ≡ on_first f i (take m l) → now ++ drop m l ≡ on_first f n l
unfolding on_first
on-lent f i m n l now e h q =
    let x : List Row = take m l in
    ap (λ (y : List Row). y ++ drop m l)
    (q ∙ ap₂ (λ (y z : List Row). map f y ++ z) (ap (λ (k : ℕ). take k x) h ∙ take-length x) (drop_of_length-le x {i = i} (omega arith)) ∙ append-nil (map f x))
    ∙ on-all f m n l e

-- ---- a row taken out

pub copied-out : (at n : ℕ) (l : List Row) → at < n → n ≤ length l → copy_within l (at + 1) n at ≡ taken_out at n l
unfolding taken_out
copied-out at n l h k =
    let e : at + 1 ≡ suc at = omega arith in
    let u : at + (n - (at + 1)) ≡ n - 1 = omega arith in
    append_assoc (take at l) (take (n - (at + 1)) (drop (at + 1) l)) (drop (at + (n - (at + 1))) l)
    ∙ ap₂ (λ (x : List Row) (m : ℕ). take at l ++ (x ++ drop m l)) (sym (slice-range (at + 1) n l (omega arith)) ∙ ap (λ (m : ℕ). slice m n l) e) u
