-- Guards of two comparisons, parts of a list, and a list that is written from a place on, an element at a time.
-- Assumes nothing.
use mathlib.Core.Path.{◌≡◌, refl, sym, ap, ◌∙◌}
use mathlib.Core.Bool.{Bool, true, false, ◌&&◌}
use mathlib.Core.List.{List, [], ◌∷◌, ◌++◌, append_assoc}
use Prim.Native.Nat.{ℕ, zero, suc, ◌+◌, ◌-◌, ◌≤◌, ◌<◌}
use native.Mathlib.Nat.{suc-sub-suc, sub-zero, le_of_suc-le-suc, not-suc-le-zero}
use native.Mathlib.Numerals.{add-one}
use native.Mathlib.Omega.{arith}
use borrow.Author.Tests.{le-leb, leb-true}
use lib.Dec.{leb}
use lib.ListN.{length, take, drop, get_or, set, length-append, length-drop, take-append-drop}
use lib.Seq.{take-nil, take-suc, drop-cons, append_snoc, set_at, slice, length-take-le, drop-append-le, get_or-append-add, get_or-drop, drop-append-add, drop-drop, take-append-add, take-append-le, take-take, take_at, drop_at}
use Rattle.words.specs.Pick.{whether◌then◌else◌}

-- a test behind another
pub and-on : (a b : Bool) → a ≡ true → (a && b) ≡ b
and-on a b t = rw t

pub and-off : (a b : Bool) → a ≡ false → (a && b) ≡ false
and-off a b t = rw t

-- what is meant within two bounds, and outside either
module _ {ℓ} {A : Type ℓ} (a b c d : ℕ) (x y : A) where
  pub both_hold : a ≤ b → c ≤ d → (whether leb a b && leb c d then x else y) ≡ x
  both_hold h k = rw (le-leb a b h, le-leb c d k)

module _ {ℓ} {A : Type ℓ} (a b c d : ℕ) (x y : A) where
  pub three-hold : a ≤ b → b ≤ c → c ≤ d → (whether (leb a b && leb b c) && leb c d then x else y) ≡ x
  three-hold h k l = rw (le-leb a b h, le-leb b c k, le-leb c d l)

-- what holds within the bounds and of the other answer too
pub guarded {ℓ κ} : {A : Type ℓ} (P : A → Type κ) (a b c d : ℕ) (x y : A) → (a ≤ b → c ≤ d → P x) → P y → P (whether leb a b && leb c d then x else y)
guarded {A} P a b c d x y f g = go (leb a b) (leb c d) (leb-true a b) (leb-true c d)
  where
    go : (u v : Bool) → (u ≡ true → a ≤ b) → (v ≡ true → c ≤ d) → P (whether u && v then x else y)
    go true true h k = f (h refl) (k refl)
    go true false h k = g
    go false v h k = g

-- and what is meant where not both hold
pub outside {ℓ} : {A : Type ℓ} (a b c d : ℕ) (x y : A) → (a ≤ b → c ≤ d → x ≡ y) → (whether leb a b && leb c d then x else y) ≡ y
outside a b c d x y f = guarded (λ z. z ≡ y) a b c d x y f refl

pub guarded₃ {ℓ κ} : {A : Type ℓ} (P : A → Type κ) (a b c d : ℕ) (x y : A) → (a ≤ b → b ≤ c → c ≤ d → P x) → P y → P (whether (leb a b && leb b c) && leb c d then x else y)
guarded₃ {A} P a b c d x y f g = go (leb a b) (leb b c) (leb c d) (leb-true a b) (leb-true b c) (leb-true c d)
  where
    go : (u v w : Bool) → (u ≡ true → a ≤ b) → (v ≡ true → b ≤ c) → (w ≡ true → c ≤ d) → P (whether (u && v) && w then x else y)
    go true true true h k l = f (h refl) (k refl) (l refl)
    go true true false h k l = g
    go true false w h k l = g
    go false v w h k l = g

module _ {ℓ} {A : Type ℓ} where
  -- a part in the middle, cut the other way round
  pub slice-take : (f t : ℕ) (l : List A) → f ≤ t → slice f t l ≡ take (t - f) (drop f l)
  slice-take zero t l h = rw sub-zero refl
  slice-take (suc f) zero l h = absurd (not-suc-le-zero h)
  slice-take (suc f) (suc t) [] h = sym (take-nil (suc t - suc f))
  slice-take (suc f) (suc t) (x ∷ l) h = slice-take f t l (le_of_suc-le-suc h) ∙ ap (λ (n : ℕ). take n (drop f l)) (sym (suc-sub-suc t f))

  -- the part up to index i, one longer
  pub slice_snoc : (f i : ℕ) (l : List A) (z : A) → f ≤ i → i < length l → slice f (i + 1) l ≡ slice f i l ++ (get_or l i z ∷ [])
  slice_snoc f i l z h k =
      ap (λ (n : ℕ). slice f n l) (add-one i)
      ∙ ap (drop f) (take-suc l i z k) ∙ drop-append-le f (take i l) (get_or l i z ∷ []) (rw (length-take-le i l (omega arith)) h)

  -- from place a on the elements m have been written; j is where the next goes
  unfoldable pub written : ℕ → List A → ℕ → List A → List A
  written a m j rs = take a rs ++ (m ++ drop j rs)

  pub written_none : (a : ℕ) (rs : List A) → rs ≡ written a [] a rs
  unfolding written
  written_none a rs = sym (take-append-drop a rs)

  module _ (a j : ℕ) (m rs : List A) (e : a + length m ≡ j) where
    head-length : j ≤ length rs → length (take a rs ++ m) ≡ j
    head-length h = simp (length-append, length-take-le a rs (omega arith)) e

    pub written-length : j ≤ length rs → length (written a m j rs) ≡ length rs
    unfolding written
    written-length h = simp (length-append, length-take-le a rs (omega arith), length-drop) (omega arith)

    -- from there on the list is as it was
    pub written_at : (i : ℕ) (z : A) → j ≤ i → j ≤ length rs → get_or (written a m j rs) i z ≡ get_or rs i z
    unfolding written
    written_at i z h k =
        let p : List A = take a rs ++ m in
        let u : i ≡ length p + (i - j) = omega (arith, head-length k) in
        let v : j + (i - j) ≡ i = omega arith in
        ap (λ (l : List A). get_or l i z) (sym (append_assoc (take a rs) m (drop j rs)))
        ∙ ap (λ (n : ℕ). get_or (p ++ drop j rs) n z) u
        ∙ get_or-append-add p (drop j rs) (i - j) z
        ∙ get_or-drop j rs (i - j) z
        ∙ ap (λ (n : ℕ). get_or rs n z) v

    split : (z : A) → j < length rs → written a m j rs ≡ (take a rs ++ m) ++ get_or rs j z ∷ drop (suc j) rs
    unfolding written
    split z k = sym (append_assoc (take a rs) m (drop j rs)) ∙ ap (λ (l : List A). take a rs ++ m ++ l) (drop-cons rs j z k)

    joined : (x : A) → (take a rs ++ m) ++ x ∷ drop (suc j) rs ≡ written a (m ++ (x ∷ [])) (j + 1) rs
    unfolding written
    joined x =
        append_assoc (take a rs) m (x ∷ drop (suc j) rs)
        ∙ ap (λ (l : List A). take a rs ++ l) (sym (append_snoc m x (drop (suc j) rs)))
        ∙ ap (λ (n : ℕ). take a rs ++ (m ++ (x ∷ []) ++ drop n rs)) (sym (add-one j))

    pub written-drop : (i : ℕ) → j ≤ i → j ≤ length rs → drop i (written a m j rs) ≡ drop i rs
    unfolding written
    written-drop i h k =
        let p : List A = take a rs ++ m in
        let u : i ≡ length p + (i - j) = omega (arith, head-length k) in
        let v : j + (i - j) ≡ i = omega arith in
        ap (drop i) (sym (append_assoc (take a rs) m (drop j rs)))
        ∙ ap (λ (n : ℕ). drop n (p ++ drop j rs)) u
        ∙ drop-append-add p (drop j rs) (i - j)
        ∙ drop-drop (i - j) j rs
        ∙ ap (λ (n : ℕ). drop n rs) v

    pub written-take : j ≤ length rs → take j (written a m j rs) ≡ take a rs ++ m
    unfolding written
    written-take k = ap (take j) (sym (append_assoc (take a rs) m (drop j rs))) ∙ take_at (take a rs ++ m) (drop j rs) j (head-length k)

    -- one more is written
    pub written-more : (x : A) → j < length rs → set (written a m j rs) j x ≡ written a (m ++ (x ∷ [])) (j + 1) rs
    written-more x k =
        ap (λ (l : List A). set l j x) (split x k)
        ∙ set_at (take a rs ++ m) (get_or rs j x) (drop (suc j) rs) x j (head-length (omega arith))
        ∙ joined x

    -- before place a the list is as it was
    pub written_low : (i : ℕ) → i ≤ a → j ≤ length rs → take i (written a m j rs) ≡ take i rs
    unfolding written
    written_low i h k = take-append-le i (take a rs) (m ++ drop j rs) (rw (length-take-le a rs (omega arith)) h) ∙ take-take i a rs h

  -- ---- a list in parts

  -- the part between two others
  pub slice-parts : (f t : ℕ) (p s z : List A) → length p ≡ f → f + length s ≡ t → slice f t (p ++ (s ++ z)) ≡ s
  slice-parts f t p s z e g =
      ap (λ (l : List A). slice f t l) (sym (append_assoc p s z))
      ∙ ap (drop f) (take_at (p ++ s) z t (length-append p s ∙ omega arith))
      ∙ drop_at p s f e

  -- past the first part
  pub drop-parts : (f k n : ℕ) (p q : List A) → length p ≡ f → f + k ≡ n → drop n (p ++ q) ≡ drop k q
  drop-parts f k n p q e g = let u : n ≡ length p + k = omega arith in ap (λ (m : ℕ). drop m (p ++ q)) u ∙ drop-append-add p q k

  pub take-parts : (f k n : ℕ) (p q : List A) → length p ≡ f → f + k ≡ n → take n (p ++ q) ≡ p ++ take k q
  take-parts f k n p q e g = let u : n ≡ length p + k = omega arith in ap (λ (m : ℕ). take m (p ++ q)) u ∙ take-append-add p q k

  -- every list is its parts
  pub parts : (f t : ℕ) (l : List A) → f ≤ t → l ≡ take f l ++ (slice f t l ++ drop t l)
  parts f t l h =
      let e : f + (t - f) ≡ t = omega arith in
      sym (take-append-drop f l)
      ∙ ap (λ (x : List A). take f l ++ x) (sym (take-append-drop (t - f) (drop f l)))
      ∙ ap (λ (x : List A). take f l ++ (x ++ drop (t - f) (drop f l))) (sym (slice-take f t l h))
      ∙ ap (λ (x : List A). take f l ++ (slice f t l ++ x)) (drop-drop (t - f) f l ∙ ap (λ (n : ℕ). drop n l) e)

  pub same_after : (m i : ℕ) (l r : List A) (z : A) → drop m l ≡ drop m r → m ≤ i → get_or l i z ≡ get_or r i z
  same_after m i l r z e h =
      let u : m + (i - m) ≡ i = omega arith in
      ap (λ (n : ℕ). get_or l n z) (sym u)
      ∙ sym (get_or-drop m l (i - m) z)
      ∙ ap (λ (x : List A). get_or x (i - m) z) e
      ∙ get_or-drop m r (i - m) z
      ∙ ap (λ (n : ℕ). get_or r n z) u

  -- two lists that agree on their first n elements: a front of those, and the rest of them
  pub agree-take : (j n : ℕ) (x y : List A) → take n x ≡ take n y → j ≤ n → take j x ≡ take j y
  agree-take j n x y q h = sym (take-take j n x h) ∙ ap (take j) q ∙ take-take j n y h

  pub agree-drop : (j n : ℕ) (x y : List A) → take n x ≡ take n y → j ≤ n → take (n - j) (drop j x) ≡ take (n - j) (drop j y)
  agree-drop j n x y q h = sym (slice-take j n x h) ∙ ap (drop j) q ∙ slice-take j n y h
