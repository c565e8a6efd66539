-- The check of a block, byte by byte, and how many calls it has. Assumes nothing.
use Prim.Native.Nat.{ℕ, ◌+◌, ◌*◌, ◌≤◌, ◌<◌}
use native.Mathlib.Nat.{mul-le-mul}
use native.Mathlib.Numerals.{add-one}
use native.Mathlib.Omega.{arith}
use mathlib.Core.Path.{◌≡◌, ap}
use mathlib.Core.List.{List}
use lib.ListN.{length}
use lib.Seq.{slice, slice-cons, slice_empty}
use mathlib.Core.Bool.{Bool, ◌&&◌}
use borrow.Author.Tests.{leb-true}
use lib.Dec.{leb, eqb}
use Rattle.definition.proofs.Tests.{by-if, and_left, and_right}
use Rattle.callfile.specs.Blocks.{byte_at, check_from, check, number_at, good, calls_in}

-- what is left of it from byte i on
abbrev pub left : ℕ → List ℕ → ℕ
left i block = check_from i (slice i 508 block)

pub left_one : (i : ℕ) (block : List ℕ) → i < 508 → 508 ≤ length block → left i block ≡ (i + 1) * byte_at i block + left (i + 1) block
unfolding check_from
left_one i block h k = rw (slice-cons i 508 block 0 h k, add-one i)

pub left-none : (block : List ℕ) → left 508 block ≡ 0
unfolding check_from
left-none block = rw (slice_empty 508 block)

-- one byte's part is small
pub part_small : (i b : ℕ) → i < 508 → b < 256 → (i + 1) * b ≤ 129540
part_small i b h k = mul-le-mul {n₁ = i + 1} {m₁ = b} {n₂ = 508} {m₂ = 255} (omega arith) (omega arith)

-- the sum of the first i bytes' parts
pub record Summed (block : List ℕ) (i sum : ℕ) : Type 0 where
  pub within : i ≤ 508
  pub small : sum ≤ 129540 * i
  pub whole : sum + left i block ≡ check block

pub one_more : {block : List ℕ} {i sum : ℕ} (b : ℕ) → i < 508 → 508 ≤ length block → b ≡ byte_at i block → b < 256 → Summed block i sum → Summed block (i + 1) (sum + (i + 1) * b)
one_more {block} {i} {sum} b h k e l s =
    let p : (i + 1) * b ≤ 129540 = part_small i b h l in
    let q : (i + 1) * b ≡ (i + 1) * byte_at i block = ap (λ (x : ℕ). (i + 1) * x) e in
    record { within = omega arith; small = omega (arith, s.small); whole = omega (arith, q, left_one i block h k, s.whole) }

-- ---- how many calls a block has

abbrev whole_block : List ℕ → ℕ → Bool
whole_block block got = leb 512 (length block) && eqb got 512

abbrev checked : List ℕ → Bool
checked block = eqb (number_at 508 block) (check block)

pub calls-few : (block : List ℕ) (got : ℕ) → calls_in block got ≤ 7
unfolding calls_in good
calls-few block got = by-if (λ (n : ℕ). n ≤ 7) (good block got) (number_at 504 block) 0
    (λ h. let few = leb (number_at 504 block) 7 in
    leb-true (number_at 504 block) 7 (and_right (whole_block block got) few (and_left (whole_block block got && few) (checked block) (and_left (whole_block block got && few && checked block) (leb 1 (number_at 504 block)) h))))
    (λ _. omega arith)
