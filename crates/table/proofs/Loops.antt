-- A gap of no rows, a row that is put in, and a search of no rows.
-- Assumes nothing.
use mathlib.Core.Path.{◌≡◌, refl, sym, ap, ap₂, ◌∙◌}
use mathlib.Core.List.{List, ◌∷◌, ◌++◌, append_assoc}
use Prim.Native.Nat.{ℕ, suc, ◌+◌, ◌-◌, ◌≤◌, ◌<◌}
use native.Mathlib.Omega.{arith}
use lib.ListN.{length, take, drop, set, length-drop, take-append-drop}
use lib.Seq.{slice, slice_empty, length-take-le, take-length, take-take, take-add, drop-append-le, drop-drop}
use Rattle.definition.specs.Layout.{Row}
use Rattle.definition.proofs.Lists.{set_front}
use Rattle.table.specs.Table.{closed, lifted, row_opened, place_from}
use Rattle.table.proofs.Lists.{parts, slice-take}

-- no row is removed
pub closed-still : (rs : List Row) (at n : ℕ) → at ≤ n → closed at 0 n rs ≡ rs
unfolding closed
closed-still rs at n h =
    let u : at + 0 ≡ at = omega arith in
    let v : n - 0 ≡ n = omega arith in
    ap₂ (λ (x y : ℕ). take at rs ++ (slice x n rs ++ drop y rs)) u v ∙ sym (parts at n rs h)

-- the rows from at on moved up by one, and a row stored at the first place
pub lifted-store : (rs : List Row) (at n : ℕ) (a : Row) → at ≤ n → n < length rs → set (lifted at 1 n rs) at a ≡ row_opened at n a rs
unfolding lifted row_opened
lifted-store rs at n a h b =
    let e : at + 1 ≡ suc at = omega arith in
    let f : n + 1 ≡ suc n = omega arith in
    ap (λ (p : ℕ). set (take p rs ++ (slice at n rs ++ drop (n + 1) rs)) at a) e
    ∙ set_front rs at (slice at n rs ++ drop (n + 1) rs) a (omega arith)
    ∙ ap (λ (p : ℕ). take at rs ++ a ∷ (slice at n rs ++ drop p rs)) f

pub place_none : (rows : List Row) (to seq : ℕ) → place_from to seq (slice to to rows) ≡ to
unfolding place_from
place_none rows to seq = rw (slice_empty to rows) refl

-- ---- a part of the rows that is lent: from place at on, so many

-- what is left of the part, and what stands past it
part-rest : (rs : List Row) (at m j : ℕ) → at + m ≤ length rs → j ≤ m → drop j (take m (drop at rs)) ++ drop m (drop at rs) ≡ drop (at + j) rs
part-rest rs at m j h b =
    let x : List Row = drop at rs in
    let l : length (take m x) ≡ m = length-take-le m x (omega (arith, length-drop at rs)) in
    sym (drop-append-le j (take m x) (drop m x) (omega arith)) ∙ ap (drop j) (take-append-drop m x) ∙ drop-drop j at rs

pub closed-part : (rs : List Row) (at k n : ℕ) → at + k ≤ n → n ≤ length rs
    → take at rs ++ (closed 0 k (length (take (n - at) (drop at rs))) (take (n - at) (drop at rs)) ++ drop (n - at) (drop at rs)) ≡ closed at k n rs
unfolding closed
closed-part rs at k n h b =
    let m : ℕ = n - at in
    let x : List Row = drop at rs in
    let s : List Row = take m x in
    let l : length s ≡ m = length-take-le m x (omega (arith, length-drop at rs)) in
    let u : at + (0 + k) ≡ at + k = omega arith in
    let v : at + (length s - k) ≡ n - k = omega arith in
    let moved : slice (0 + k) (length s) s ≡ slice (at + k) n rs =
    ap (drop (0 + k)) (take-length s ∙ sym (slice-take at n rs (omega arith))) ∙ drop-drop (0 + k) at (take n rs) ∙ ap (λ (p : ℕ). drop p (take n rs)) u in
    let rest : drop (length s - k) s ++ drop m x ≡ drop (n - k) rs = part-rest rs at m (length s - k) (omega arith) (omega arith) ∙ ap (λ (p : ℕ). drop p rs) v in
    ap (λ (y : List Row). take at rs ++ y) (append_assoc (slice (0 + k) (length s) s) (drop (length s - k) s) (drop m x) ∙ ap₂ (λ (y z : List Row). y ++ z) moved rest)

pub lifted-part : (rs : List Row) (at k n : ℕ) → at ≤ n → n + k ≤ length rs
    → take at rs ++ (lifted 0 k (length (take (n + k - at) (drop at rs)) - k) (take (n + k - at) (drop at rs)) ++ drop (n + k - at) (drop at rs)) ≡ lifted at k n rs
unfolding lifted
lifted-part rs at k n h b =
    let m : ℕ = n + k - at in
    let x : List Row = drop at rs in
    let s : List Row = take m x in
    let l : length s ≡ m = length-take-le m x (omega (arith, length-drop at rs)) in
    let j : ℕ = length s - k in
    let u : 0 + k ≡ k = omega arith in
    let v : at + (j + k) ≡ n + k = omega arith in
    let w : j ≡ n - at = omega arith in
    let first : take (0 + k) s ≡ take k x = ap (λ (p : ℕ). take p s) u ∙ take-take k m x (omega arith) in
    let moved : slice 0 j s ≡ slice at n rs = take-take j m x (omega arith) ∙ ap (λ (p : ℕ). take p x) w ∙ sym (slice-take at n rs h) in
    let rest : drop (j + k) s ++ drop m x ≡ drop (n + k) rs = part-rest rs at m (j + k) (omega arith) (omega arith) ∙ ap (λ (p : ℕ). drop p rs) v in
    ap (λ (y : List Row). take at rs ++ y)
    (append_assoc (take (0 + k) s) (slice 0 j s ++ drop (j + k) s) (drop m x)
    ∙ ap₂ (λ (y z : List Row). y ++ z) first (append_assoc (slice 0 j s) (drop (j + k) s) (drop m x) ∙ ap₂ (λ (y z : List Row). y ++ z) moved rest))
    ∙ sym (append_assoc (take at rs) (take k x) (slice at n rs ++ drop (n + k) rs))
    ∙ ap (λ (y : List Row). y ++ (slice at n rs ++ drop (n + k) rs)) (sym (take-add at k rs))
