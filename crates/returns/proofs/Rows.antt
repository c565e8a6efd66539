-- Rows that close up over a gap, by their places. Assumes nothing.
use mathlib.Core.Path.{◌≡◌, sym, ap, ap₂, ◌∙◌}
use mathlib.Core.List.{List, [], ◌∷◌, ◌++◌, append_assoc}
use Prim.Native.Nat.{ℕ, suc, ◌+◌, ◌-◌, ◌≤◌, ◌<◌}
use native.Mathlib.Omega.{arith}
use lib.ListN.{length, take, drop, set, length-append, length-set, take-append-drop}
use lib.Seq.{slice, length-slice, length-take-le, take-take, take-add, drop-drop, take_at, drop_at, take-suc-set, drop-set-lt, take-set-le, take-set-lt, drop-set-add, drop-append-le, take-append-le}
use Rattle.definition.specs.Layout.{Row}
use Rattle.table.specs.Table.{close_gap}
use Rattle.table.proofs.Laws.{close-length, close-used, close-after}
use Rattle.table.proofs.Lists.{slice-take, drop-parts}
use Rattle.returns.specs.Gaps.{cut}

-- ---- parts of parts

-- a part's rest is a part
pub slice-drop : (m f t : ℕ) (l : List Row) → drop m (slice f t l) ≡ slice (f + m) t l
slice-drop m f t l = drop-drop m f (take t l)

pub slice_front : (n f t : ℕ) (l : List Row) → f + n ≤ t → take n (slice f t l) ≡ slice f (f + n) l
slice_front n f t l h =
    let e : f + n - f ≡ n = omega arith in
    ap (take n) (slice-take f t l (omega arith)) ∙ take-take n (t - f) (drop f l) (omega arith) ∙ ap (λ (m : ℕ). take m (drop f l)) (sym e) ∙ sym (slice-take f (f + n) l (omega arith))

-- a part up to n and on from there
pub slice-join : (f n t : ℕ) (l : List Row) → f ≤ n → n ≤ t → slice f n l ++ slice n t l ≡ slice f t l
slice-join f n t l h k =
    let a : f + (n - f) ≡ n = omega arith in
    let s : List Row = slice f t l in
    let b : take (n - f) s ≡ slice f n l = slice_front (n - f) f t l (omega arith) ∙ ap (λ (m : ℕ). slice f m l) a in
    let c : drop (n - f) s ≡ slice n t l = slice-drop (n - f) f t l ∙ ap (λ (m : ℕ). slice m t l) a in
    ap₂ (λ (x y : List Row). x ++ y) (sym b) (sym c) ∙ take-append-drop (n - f) s

-- what a list was is in its first n
pub take-of : (m n : ℕ) (l r : List Row) → m ≤ n → take n l ≡ r → take m l ≡ take m r
take-of m n l r h e = sym (take-take m n l h) ∙ ap (take m) e

-- a row written past a part
pub slice-set-past : (f t p : ℕ) (l : List Row) (x : Row) → t ≤ p → slice f t (set l p x) ≡ slice f t l
slice-set-past f t p l x h = ap (drop f) (take-set-le t l p x h)

-- and into it
pub slice-set-in : (f t p : ℕ) (l : List Row) (x : Row) → f + p < t → slice f t (set l (f + p) x) ≡ set (slice f t l) p x
slice-set-in f t p l x h = ap (drop f) (take-set-lt t l (f + p) x h) ∙ drop-set-add f (take t l) p x

-- ---- a gap

-- longer parts around the same gap
pub cut-join : (from k n t : ℕ) (l : List Row) → from + k ≤ n → n ≤ t → cut from k n l ++ slice n t l ≡ cut from k t l
cut-join from k n t l h g = append_assoc (take from l) (slice (from + k) n l) (slice n t l) ∙ ap (λ (x : List Row). take from l ++ x) (slice-join (from + k) n t l h g)

pub cut-length : (from k n : ℕ) (l : List Row) → from + k ≤ n → n ≤ length l → length (cut from k n l) ≡ n - k
cut-length from k n l h g = simp (length-append, length-take-le from l (omega arith), length-slice (from + k) n l g) (omega arith)

pub cut-front : (from k n t : ℕ) (l : List Row) → from + k ≤ n → n ≤ t → n ≤ length l → take (n - k) (cut from k t l) ≡ cut from k n l
cut-front from k n t l h g b = ap (take (n - k)) (sym (cut-join from k n t l h g)) ∙ take_at (cut from k n l) (slice n t l) (n - k) (cut-length from k n l h b)

pub cut-back : (from k n t : ℕ) (l : List Row) → from + k ≤ n → n ≤ t → n ≤ length l → drop (n - k) (cut from k t l) ≡ slice n t l
cut-back from k n t l h g b = ap (drop (n - k)) (sym (cut-join from k n t l h g)) ∙ drop_at (cut from k n l) (slice n t l) (n - k) (cut-length from k n l h b)

-- j rows of the gap, then k that have closed up: the gap is smaller
pub cut-less : (from j k g n : ℕ) (l m : List Row) → j + k ≤ g → from + g ≤ n → n ≤ length l
    → take (n - k) m ≡ cut (from + j) k n l → cut from (g - k) (n - k) m ≡ cut from g n l
cut-less from j k g n l m h b c e =
    let a : List Row = take (from + j) l in
    let la : length a ≡ from + j = length-take-le (from + j) l (omega arith) in
    let s : List Row = slice (from + j + k) n l in
    let low : take from m ≡ take from l =
    take-of from (n - k) m (cut (from + j) k n l) (omega arith) e
    ∙ take-append-le from a s (omega arith) ∙ take-take from (from + j) l (omega arith) in
    let u : from + j + (g - k - j) ≡ from + (g - k) = omega arith in
    let v : from + j + k + (g - k - j) ≡ from + g = omega arith in
    let high : slice (from + (g - k)) (n - k) m ≡ slice (from + g) n l =
    ap (drop (from + (g - k))) e ∙ drop-parts (from + j) (g - k - j) (from + (g - k)) a s la u
    ∙ slice-drop (g - k - j) (from + j + k) n l ∙ ap (λ (x : ℕ). slice x n l) v in
    ap₂ (λ (x y : List Row). x ++ y) low high

-- ---- a gap that closes

module _ (at k n t : ℕ) (l : List Row) (h : at + k ≤ n) (g : n ≤ t) (b : t ≤ length l) where
  pub closed-low : take (n - k) (close_gap at k t l) ≡ cut at k n l
  closed-low = take-of (n - k) (t - k) (close_gap at k t l) (cut at k t l) (omega arith) (close-used at k t l (omega arith) b) ∙ cut-front at k n t l h g (omega arith)

  pub closed-high : slice (n - k) (t - k) (close_gap at k t l) ≡ slice n t l
  closed-high = ap (drop (n - k)) (close-used at k t l (omega arith) b) ∙ cut-back at k n t l h g (omega arith)

-- ---- the row at a place goes up before place n

module _ (from n : ℕ) (l : List Row) (x : Row) (h : from + 1 ≤ n) (b : n ≤ length l) where
  abbrev pub turned : List Row
  turned = set (close_gap from 1 n l) (n - 1) x

  pub turned-length : length turned ≡ length l
  turned-length = length-set (close_gap from 1 n l) (n - 1) x ∙ close-length from 1 n l

  pub turned-front : take n turned ≡ cut from 1 n l ++ x ∷ []
  turned-front =
      let c : List Row = close_gap from 1 n l in
      let e : suc (n - 1) ≡ n = omega arith in
      ap (λ (m : ℕ). take m turned) (sym e)
      ∙ take-suc-set c (n - 1) x (omega (arith, close-length from 1 n l))
      ∙ ap (λ (y : List Row). y ++ x ∷ []) (close-used from 1 n l h b)

  pub turned-after : (m : ℕ) → n ≤ m → drop m turned ≡ drop m l
  turned-after m g = drop-set-lt m (close_gap from 1 n l) (n - 1) x (omega arith) ∙ close-after from 1 n l m (omega arith)

  -- with the rows from first on, up to t
  module _ (first t : ℕ) (f : from + 1 ≤ first) (g : first ≤ n) (k : n ≤ t) (a : t ≤ length l) where
    pub turned-low : take (first - 1) turned ≡ cut from 1 first l
    turned-low =
        take-of (first - 1) n turned (cut from 1 n l ++ x ∷ []) (omega arith) turned-front
        ∙ take-append-le (first - 1) (cut from 1 n l) (x ∷ []) (omega (arith, cut-length from 1 n l h b))
        ∙ cut-front from 1 first n l f g (omega arith)

    pub turned-high : slice (first - 1) t turned ≡ slice first n l ++ x ∷ slice n t l
    turned-high =
        let e : n + (t - n) ≡ t = omega arith in
        let c : List Row = cut from 1 n l ++ x ∷ [] in
        let d : length (cut from 1 n l) ≡ n - 1 = cut-length from 1 n l h b in
        let rest : take (t - n) (drop n turned) ≡ slice n t l = ap (take (t - n)) (turned-after n (omega arith)) ∙ sym (slice-take n t l k) in
        let all : take t turned ≡ c ++ slice n t l =
        ap (λ (m : ℕ). take m turned) (sym e) ∙ take-add n (t - n) turned ∙ ap₂ (λ (y z : List Row). y ++ z) turned-front rest in
        ap (drop (first - 1)) all
        ∙ drop-append-le (first - 1) c (slice n t l) (omega (arith, d, length-append (cut from 1 n l) (x ∷ [])))
        ∙ ap (λ (y : List Row). y ++ slice n t l) (drop-append-le (first - 1) (cut from 1 n l) (x ∷ []) (omega (arith, d)) ∙ ap (λ (y : List Row). y ++ x ∷ []) (cut-back from 1 first n l f g (omega arith)))
        ∙ append_assoc (slice first n l) (x ∷ []) (slice n t l)
