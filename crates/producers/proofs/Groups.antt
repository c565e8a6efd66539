-- Groups of w words, read one after the other: a search among them, those that stay, one that is written over, and one more.
-- Assumes nothing.
use mathlib.Core.Path.{◌≡◌, refl, sym, ap, ap₂, ◌∙◌}
use mathlib.Core.Bool.{Bool, true, false, ◌&&◌, and-true, and_assoc}
use mathlib.Core.List.{List, [], ◌∷◌, ◌++◌, append_assoc}
use mathlib.Core.Option.{none, some}
use Prim.Native.Nat.{ℕ, zero, suc, ◌+◌, ◌-◌, ◌*◌, ◌≤◌, ◌<◌}
use native.Mathlib.Nat.{suc-mul, le_trans, mul-le-mul_right}
use native.Mathlib.Numerals.{add-one}
use native.Mathlib.Omega.{arith}
use lib.ListN.{length, take, drop, set, length-append, length-drop}
use lib.Seq.{length-take-le, drop-drop, drop_at, take-add}
use Rattle.definition.specs.Base.{keep, find, put}
use Rattle.definition.proofs.Tests.{by-test, and_left, and_right, and_both}
use Rattle.producers.specs.Groups.{first_of, kept_count, kept_words, written_from}

-- one group fewer
pub mul-less : (n w : ℕ) → suc n * w ≡ w + n * w
mul-less n w = suc-mul n w ∙ omega arith

pub room-less : (n w : ℕ) (l : List ℕ) → suc n * w ≤ length l → n * w ≤ length (drop w l)
room-less n w l h = omega (arith, mul-less n w, length-drop w l)

-- a place among them
below : (w k n : ℕ) (l : List ℕ) → k ≤ n → n * w ≤ length l → k * w ≤ length l
below w k n l h r = le_trans (mul-le-mul_right w h) r

first-room : (n w : ℕ) (l : List ℕ) → suc n * w ≤ length l → w ≤ length l
first-room n w l h = omega (arith, mul-less n w)

-- ---- as a loop goes along them

module _ (p : List ℕ → Bool) (w : ℕ) where
  pub first-here : (n : ℕ) (l : List ℕ) → 0 < n → p l ≡ true → first_of p w n l ≡ 0
  unfolding first_of
  first-here zero l h e = absurd (omega arith)
  first-here (suc n) l h e = rw e

  pub first_next : (n : ℕ) (l : List ℕ) → 0 < n → p l ≡ false → first_of p w n l ≡ suc (first_of p w (n - 1) (drop w l))
  unfolding first_of
  first_next zero l h e = absurd (omega arith)
  first_next (suc n) l h e = let q : suc n - 1 ≡ n = omega arith in rw (e, q)

  pub count_most : (n : ℕ) (l : List ℕ) → kept_count p w n l ≤ n
  unfolding kept_count
  count_most zero l = omega arith
  count_most (suc n) l = by-test (p l) (λ e. rw e (omega (arith, count_most n (drop w l)))) (λ e. rw e (omega (arith, count_most n (drop w l))))

  pub kept-length : (n : ℕ) (l : List ℕ) → n * w ≤ length l → length (kept_words p w n l) ≤ n * w
  unfolding kept_words
  kept-length zero l h = omega arith
  kept-length (suc n) l h =
      let i = kept-length n (drop w l) (room-less n w l h) in
      by-test (p l)
      (λ e. rw e (omega (arith, mul-less n w, i, length-append (take w l) (kept_words p w n (drop w l)), length-take-le w l (first-room n w l h))))
      (λ e. rw e (omega (arith, mul-less n w, i)))

  -- the first of them stays, or goes
  pub kept-stays : (n : ℕ) (l : List ℕ) → 0 < n → p l ≡ true
      → (kept_count p w n l ≡ suc (kept_count p w (n - 1) (drop w l))) × (kept_words p w n l ≡ take w l ++ kept_words p w (n - 1) (drop w l))
  unfolding kept_count kept_words
  kept-stays zero l h e = absurd (omega arith)
  kept-stays (suc n) l h e =
      let q : suc n - 1 ≡ n = omega arith in
      (rw (e, q), rw (e, q))

  pub kept_goes : (n : ℕ) (l : List ℕ) → 0 < n → p l ≡ false
      → (kept_count p w n l ≡ kept_count p w (n - 1) (drop w l)) × (kept_words p w n l ≡ kept_words p w (n - 1) (drop w l))
  unfolding kept_count kept_words
  kept_goes zero l h e = absurd (omega arith)
  kept_goes (suc n) l h e =
      let q : suc n - 1 ≡ n = omega arith in
      (rw (e, q), rw (e, q))

-- ---- what a group holds

-- f reads a group at the front of the words; ok says whether it may, and neither looks past a group that is ok
module _ {A : Type 0} (f : List ℕ → A) (ok : List ℕ → Bool) (w : ℕ) where
  abbrev pub elems : ℕ → List ℕ → List A
  elems zero l = []
  elems (suc n) l = f l ∷ elems n (drop w l)

  abbrev pub oks : ℕ → List ℕ → Bool
  oks zero l = true
  oks (suc n) l = ok l && oks n (drop w l)

  more : (n : ℕ) (l : List ℕ) → elems (suc n) l ≡ elems n l ++ f (drop (n * w) l) ∷ []
  more zero l = let z : 0 * w ≡ 0 = omega arith in rw z
  more (suc n) l = ap (λ (x : List A). f l ∷ x) (more n (drop w l) ∙ ap (λ (x : List ℕ). elems n (drop w l) ++ f x ∷ []) (drop-drop (n * w) w l ∙ ap (λ (m : ℕ). drop m l) (sym (mul-less n w))))

  more-oks : (n : ℕ) (l : List ℕ) → oks (suc n) l ≡ (oks n l && ok (drop (n * w) l))
  more-oks zero l = let z : 0 * w ≡ 0 = omega arith in rw (z, and-true)
  more-oks (suc n) l =
      ap (λ (x : Bool). ok l && x) (more-oks n (drop w l) ∙ ap (λ (x : List ℕ). oks n (drop w l) && ok x) (drop-drop (n * w) w l ∙ ap (λ (m : ℕ). drop m l) (sym (mul-less n w))))
      ∙ sym (and_assoc (ok l) (oks n (drop w l)) (ok (drop (suc n * w) l)))

  module _ (q : A → Bool) where
    abbrev p : List ℕ → Bool
    p l = q (f l)

    -- a search
    pub found : (n : ℕ) (l : List ℕ) → first_of p w n l < n → find q (elems n l) ≡ some (f (drop (first_of p w n l * w) l))
    unfolding first_of
    found zero l h = absurd (omega arith)
    found (suc n) l h =
        let k : ℕ = first_of p w n (drop w l) in
        let ih : k < n → find q (elems n (drop w l)) ≡ some (f (drop (k * w) (drop w l))) = found n (drop w l) in
        let e₀ : 0 * w ≡ 0 = omega arith in
        by-test (p l)
        (λ e. rw (e, e₀))
        (λ e.
        let g : suc k < suc n = rw e at h in
        rw e (ih (omega arith) ∙ ap (λ (x : List ℕ). some (f x)) (drop-drop (k * w) w l ∙ ap (λ (m : ℕ). drop m l) (sym (mul-less k w)))))

    pub not_found : (n : ℕ) (l : List ℕ) → n ≤ first_of p w n l → find q (elems n l) ≡ none
    unfolding first_of
    not_found zero l h = refl
    not_found (suc n) l h = by-test (p l) (λ e. absurd (omega (arith, rw e at h))) (λ e. rw e (not_found n (drop w l) (omega (arith, rw e at h))))

    -- what is put in the place of the first that passes
    pub put_first : (n : ℕ) (l : List ℕ) (v : A) → first_of p w n l < n → put q v (elems n l) ≡ set (elems n l) (first_of p w n l) v
    unfolding first_of
    put_first zero l v h = absurd (omega arith)
    put_first (suc n) l v h = by-test (p l) (λ e. rw e) (λ e. rw e (ap (λ (x : List A). f l ∷ x) (put_first n (drop w l) v (omega (arith, rw e at h)))))

  module _ (local : (l m : List ℕ) → w ≤ length l → ok l ≡ true → f (take w l ++ m) ≡ f l) (same : (l m : List ℕ) → w ≤ length l → ok (take w l ++ m) ≡ ok l) where
    -- a front that is longer than a group
    front : (b : ℕ) (l m : List ℕ) → w ≤ b → b ≤ length l → take b l ++ m ≡ take w l ++ (take (b - w) (drop w l) ++ m)
    front b l m c k =
        let e : b ≡ w + (b - w) = omega arith in
        ap (λ (x : List ℕ). x ++ m) (ap (λ (i : ℕ). take i l) e ∙ take-add w (b - w) l) ∙ append_assoc (take w l) (take (b - w) (drop w l)) m

    front-drop : (l m : List ℕ) → w ≤ length l → drop w (take w l ++ m) ≡ m
    front-drop l m h = drop_at (take w l) m w (length-take-le w l h)

    -- the groups before a place, whatever stands from there on
    pub elems-before : (n b : ℕ) (l m : List ℕ) → n * w ≤ b → b ≤ length l → oks n l ≡ true → elems n (take b l ++ m) ≡ elems n l
    elems-before zero b l m h k o = refl
    elems-before (suc n) b l m h k o =
        let c : w ≤ b = omega (arith, mul-less n w) in
        let r : List ℕ = take (b - w) (drop w l) ++ m in
        let e : take b l ++ m ≡ take w l ++ r = front b l m c k in
        let g : w ≤ length l = omega arith in
        ap₂ (λ (x : A) (y : List A). x ∷ y) (ap f e ∙ local l r g (and_left (ok l) (oks n (drop w l)) o))
        (ap (λ (x : List ℕ). elems n (drop w x)) e ∙ ap (elems n) (front-drop l r g)
        ∙ elems-before n (b - w) (drop w l) m (omega (arith, mul-less n w)) (omega (arith, length-drop w l)) (and_right (ok l) (oks n (drop w l)) o))

    pub oks-before : (n b : ℕ) (l m : List ℕ) → n * w ≤ b → b ≤ length l → oks n (take b l ++ m) ≡ oks n l
    oks-before zero b l m h k = refl
    oks-before (suc n) b l m h k =
        let c : w ≤ b = omega (arith, mul-less n w) in
        let r : List ℕ = take (b - w) (drop w l) ++ m in
        let e : take b l ++ m ≡ take w l ++ r = front b l m c k in
        let g : w ≤ length l = omega arith in
        ap₂ (λ (x y : Bool). x && y) (ap ok e ∙ same l r g)
        (ap (λ (x : List ℕ). oks n (drop w x)) e ∙ ap (oks n) (front-drop l r g) ∙ oks-before n (b - w) (drop w l) m (omega (arith, mul-less n w)) (omega (arith, length-drop w l)))

    -- those that stay, with any words after them
    pub kept-elems : (q : A → Bool) (n : ℕ) (l m : List ℕ) → n * w ≤ length l → oks n l ≡ true
        → elems (kept_count (λ x. q (f x)) w n l) (kept_words (λ x. q (f x)) w n l ++ m) ≡ keep q (elems n l)
    unfolding kept_count kept_words
    kept-elems q zero l m h o = refl
    kept-elems q (suc n) l m h o =
        let g : w ≤ length l = first-room n w l h in
        let c : ℕ = kept_count (λ x. q (f x)) w n (drop w l) in
        let k : List ℕ = kept_words (λ x. q (f x)) w n (drop w l) in
        let ih : elems c (k ++ m) ≡ keep q (elems n (drop w l)) = kept-elems q n (drop w l) m (room-less n w l h) (and_right (ok l) (oks n (drop w l)) o) in
        by-test (q (f l))
        (λ e. rw (e, append_assoc (take w l) k m) (ap₂ (λ (x : A) (y : List A). x ∷ y) (local l (k ++ m) g (and_left (ok l) (oks n (drop w l)) o)) (ap (elems c) (front-drop l (k ++ m) g) ∙ ih)))
        (λ e. rw e ih)

    pub kept-oks : (p : List ℕ → Bool) (n : ℕ) (l m : List ℕ) → n * w ≤ length l → oks n l ≡ true → oks (kept_count p w n l) (kept_words p w n l ++ m) ≡ true
    unfolding kept_count kept_words
    kept-oks p zero l m h o = refl
    kept-oks p (suc n) l m h o =
        let g : w ≤ length l = first-room n w l h in
        let c : ℕ = kept_count p w n (drop w l) in
        let k : List ℕ = kept_words p w n (drop w l) in
        let ih : oks c (k ++ m) ≡ true = kept-oks p n (drop w l) m (room-less n w l h) (and_right (ok l) (oks n (drop w l)) o) in
        by-test (p l)
        (λ e. rw (e, append_assoc (take w l) k m) (and_both _ _ (same l (k ++ m) g ∙ and_left (ok l) (oks n (drop w l)) o) (ap (oks c) (front-drop l (k ++ m) g) ∙ ih)))
        (λ e. rw e ih)

    -- a group written over: g is a whole one
    over-front : (k : ℕ) (g l : List ℕ) → suc k * w ≤ length l → written_from (suc k * w) g l ≡ take w l ++ written_from (k * w) g (drop w l)
    over-front k g l h =
        let b : suc k * w - w ≡ k * w = omega (arith, mul-less k w) in
        let c : suc k * w + length g ≡ w + (k * w + length g) = omega (arith, mul-less k w) in
        front (suc k * w) l (g ++ drop (suc k * w + length g) l) (omega (arith, mul-less k w)) h
        ∙ ap₂ (λ (i : ℕ) (x : List ℕ). take w l ++ (take i (drop w l) ++ (g ++ x))) b (ap (λ (i : ℕ). drop i l) c ∙ sym (drop-drop (k * w + length g) w l))

    pub elems-over : (k n : ℕ) (g l : List ℕ) → k < n → n * w ≤ length l → length g ≡ w → oks n l ≡ true
        → elems n (written_from (k * w) g l) ≡ set (elems n l) k (f (g ++ drop (k * w + w) l))
    elems-over k zero g l h r e o = absurd (omega arith)
    elems-over zero (suc n) g l h r e o =
        let z : 0 * w ≡ 0 = omega arith in
        let y : 0 + w ≡ w = omega arith in
        rw (z, e, y) (ap (λ (x : List ℕ). f (g ++ drop w l) ∷ elems n x) (drop_at g (drop w l) w e))
    elems-over (suc k) (suc n) g l h r e o =
        let a : w ≤ length l = first-room n w l r in
        let s : suc k * w ≤ length l = below w (suc k) (suc n) l (omega arith) r in
        let j : suc k * w + w ≡ w + (k * w + w) = omega (arith, mul-less k w) in
        let d : drop (suc k * w + w) l ≡ drop (k * w + w) (drop w l) = ap (λ (i : ℕ). drop i l) j ∙ sym (drop-drop (k * w + w) w l) in
        ap (elems (suc n)) (over-front k g l s)
        ∙ ap₂ (λ (x : A) (y : List A). x ∷ y) (local l (written_from (k * w) g (drop w l)) a (and_left (ok l) (oks n (drop w l)) o))
        (ap (elems n) (front-drop l (written_from (k * w) g (drop w l)) a)
        ∙ elems-over k n g (drop w l) (omega arith) (room-less n w l r) e (and_right (ok l) (oks n (drop w l)) o)
        ∙ ap (λ (x : List ℕ). set (elems n (drop w l)) k (f (g ++ x))) (sym d))

    pub oks-over : (k n : ℕ) (g l : List ℕ) → k < n → n * w ≤ length l → length g ≡ w → oks n l ≡ true → ok (g ++ drop (k * w + w) l) ≡ true → oks n (written_from (k * w) g l) ≡ true
    oks-over k zero g l h r e o t = absurd (omega arith)
    oks-over zero (suc n) g l h r e o t =
        let z : 0 * w ≡ 0 = omega arith in
        let y : 0 + w ≡ w = omega arith in
        rw (z, e, y) (and_both _ _ (rw (z, y) at t) (ap (oks n) (drop_at g (drop w l) w e) ∙ and_right (ok l) (oks n (drop w l)) o))
    oks-over (suc k) (suc n) g l h r e o t =
        let a : w ≤ length l = first-room n w l r in
        let s : suc k * w ≤ length l = below w (suc k) (suc n) l (omega arith) r in
        let j : suc k * w + w ≡ w + (k * w + w) = omega (arith, mul-less k w) in
        let d : drop (suc k * w + w) l ≡ drop (k * w + w) (drop w l) = ap (λ (i : ℕ). drop i l) j ∙ sym (drop-drop (k * w + w) w l) in
        ap (oks (suc n)) (over-front k g l s)
        ∙ and_both _ _ (same l (written_from (k * w) g (drop w l)) a ∙ and_left (ok l) (oks n (drop w l)) o)
        (ap (oks n) (front-drop l (written_from (k * w) g (drop w l)) a)
        ∙ oks-over k n g (drop w l) (omega arith) (room-less n w l r) e (and_right (ok l) (oks n (drop w l)) o) (ap (λ (x : List ℕ). ok (g ++ x)) (sym d) ∙ t))

  -- one more group
  pub elems-more : (n : ℕ) (l : List ℕ) → elems (n + 1) l ≡ elems n l ++ f (drop (n * w) l) ∷ []
  elems-more n l = ap (λ (m : ℕ). elems m l) (add-one n) ∙ more n l

  pub oks-more : (n : ℕ) (l : List ℕ) → oks (n + 1) l ≡ (oks n l && ok (drop (n * w) l))
  oks-more n l = ap (λ (m : ℕ). oks m l) (add-one n) ∙ more-oks n l
