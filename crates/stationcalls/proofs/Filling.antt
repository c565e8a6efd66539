-- A list filled from its front, a place at a time. Assumes nothing.
use mathlib.Core.Path.{◌≡◌, refl, sym, ap, ◌∙◌}
use mathlib.Core.List.{List, ◌++◌}
use Prim.Native.Nat.{ℕ, ◌+◌, ◌≤◌, ◌<◌}
use native.Mathlib.Nat.{zero-add}
use native.Mathlib.Numerals.{add-one}
use native.Mathlib.Omega.{arith}
use lib.ListN.{length, drop, get_or, set}
use lib.Seq.{paste, paste-zero, paste-suc, length-paste, take_all}

-- the first i of s stand first, of n at most
pub record Filling {A : Type 0} (before s : List A) (n : ℕ) (l : List A) (i : ℕ) : Type 0 where
  pub few : i ≤ n
  pub long : n ≤ length s
  pub room : n ≤ length before
  pub filled : l ≡ paste before 0 s i
  pub same : length l ≡ length before

module _ {A : Type 0} (before s : List A) (n : ℕ) where
  pub none_filled : n ≤ length s → n ≤ length before → Filling before s n before 0
  none_filled h g = record { few = omega (arith); long = h; room = g; filled = paste-zero before 0 s; same = refl }

  pub one-filled : (l : List A) (i : ℕ) (x z : A) → Filling before s n l i → i < n → x ≡ get_or s i z → Filling before s n (set l i x) (i + 1)
  one-filled l i x z f less e = record { few = omega (arith, less); long = f.long; room = f.room; filled = next; same = ap length next ∙ length-paste before 0 s (i + 1) (omega (arith, less, f.room)) (omega (arith, less, f.long)) }
    where
      next : set l i x ≡ paste before 0 s (i + 1)
      next =
          ap (λ (m : ℕ). set l m x) (sym (zero-add i))
          ∙ ap (λ (q : List A). set q (0 + i) x) f.filled
          ∙ ap (λ (y : A). set (paste before 0 s i) (0 + i) y) e
          ∙ paste-suc before 0 s i z (omega (arith, less, f.room)) (omega (arith, less, f.long))
          ∙ ap (λ (m : ℕ). paste before 0 s m) (sym (add-one i))

  pub all-filled : (l : List A) (i : ℕ) → Filling before s n l i → n ≤ i → length s ≡ n → l ≡ s ++ drop n before
  all-filled l i f h e =
      f.filled
      ∙ ap (λ (m : ℕ). paste before 0 s m) end
      ∙ ap (λ (q : List A). q ++ drop (0 + n) before) (take_all n s (omega (arith, e)))
      ∙ ap (λ (m : ℕ). s ++ drop m before) (zero-add n)
    where
      end : i ≡ n
      end = omega (arith, h, f.few)
