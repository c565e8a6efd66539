-- How a block leaves, by the tests that the code makes. Assumes nothing.
use mathlib.Core.Path.{◌≡◌}
use mathlib.Core.Bool.{Bool, true, false}
use Prim.Native.Nat.{ℕ, ◌%◌}
use borrow.Author.Tests.{eq-eqb, ne_eqb}
use Rattle.fates.specs.Blocks.{acked_as, leaves_as}

pub acked-letter : (k : ℕ) → k ≡ 1 → 6 ≡ acked_as k
acked-letter k e = rw (eq-eqb k 1 e)

pub acked-expired : (k : ℕ) → (k ≡ 1 → ⊥) → k ≡ 6 → 4 ≡ acked_as k
acked-expired k n e = rw (ne_eqb k 1 n, eq-eqb k 6 e)

pub acked-dequeued : (k : ℕ) → (k ≡ 1 → ⊥) → (k ≡ 6 → ⊥) → 3 ≡ acked_as k
acked-dequeued k n m = rw (ne_eqb k 1 n, ne_eqb k 6 m)

module _ (code k : ℕ) (w : Bool) where
  pub leaves-cleared : code ≡ 10 → 7 ≡ leaves_as code k w
  unfolding leaves_as
  leaves-cleared e = rw (eq-eqb code 10 e)

  pub leaves-late : (code ≡ 10 → ⊥) → (code ≡ 4 → ⊥) → 4 ≡ leaves_as code k w
  unfolding leaves_as
  leaves-late n m = rw (ne_eqb code 10 n, ne_eqb code 4 m)

  pub leaves-waited : (code ≡ 10 → ⊥) → code ≡ 4 → w ≡ true → 4 ≡ leaves_as code k w
  unfolding leaves_as
  leaves-waited n m e = rw (ne_eqb code 10 n, eq-eqb code 4 m, e)

  pub leaves-acked : (code ≡ 10 → ⊥) → code ≡ 4 → w ≡ false → acked_as (k % 256) ≡ leaves_as code k w
  unfolding leaves_as
  leaves-acked n m e = rw (ne_eqb code 10 n, eq-eqb code 4 m, e)
