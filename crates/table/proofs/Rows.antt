-- A row that a function changed: its entry, its words and its length.
-- Assumes nothing.
use mathlib.Core.Path.{◌≡◌, ap, ◌∙◌}
use mathlib.Core.Bool.{Bool, true, false}
use Prim.Native.Nat.{ℕ, ◌≤◌, ◌<◌}
use native.Mathlib.Omega.{arith}
use lib.ListN.{length, get_or, set, length-set}
use lib.Seq.{get_or-set_same, get_or-set_other}
use Rattle.words.specs.Words.{unsigned, int}
use Rattle.words.proofs.Words.{int-fits, int-unsigned}
use Rattle.entry.specs.Entry.{entry_of, one_more, redelivered}
use Rattle.entry.proofs.Redelivery.{one_more-fits}
use Rattle.definition.specs.Consumer.{inflight_of}
use Rattle.definition.specs.Layout.{flag, inflight_at, Row}
use Rattle.table.specs.Table.{is_freed, freed_row, raised_row, unmark_row, flown_row}

-- another word is as it was
pub word_kept : (w : Row) (k v j : ℕ) → (j ≡ k → ⊥) → get_or (set w k v) j 0 ≡ get_or w j 0
word_kept w k v j h = get_or-set_other w k j v 0 h

pub below : {j k : ℕ} → j < k → j ≡ k → ⊥
below h e = omega arith

pub above : {j k : ℕ} → k < j → j ≡ k → ⊥
above h e = omega arith

-- the words of the place are no part of the entry
pub place_kept : (w : Row) (k v : ℕ) → 6 ≤ k → k ≤ 8 → entry_of (set w k v) ≡ entry_of w
unfolding entry_of
place_kept w k v h g =
    rw
    (word_kept w k v 0 (below (omega arith)), word_kept w k v 1 (below (omega arith)), word_kept w k v 2 (below (omega arith)), word_kept w k v 3 (below (omega arith)), word_kept w k v 4 (below (omega arith)), word_kept w k v 5 (below (omega arith)), word_kept w k v 9 (above (omega arith)))

pub freed-entry : (tx : Bool) (w : Row) → entry_of (freed_row tx w) ≡ entry_of w
freed-entry true w = place_kept (set w 7 1) 8 1 (omega arith) (omega arith) ∙ place_kept w 7 1 (omega arith) (omega arith)
freed-entry false w = place_kept w 7 1 (omega arith) (omega arith)

pub unmark-entry : (w : Row) → entry_of (unmark_row w) ≡ entry_of w
unmark-entry w = place_kept w 8 0 (omega arith) (omega arith)

-- the counter rises in the entry
pub raised-entry : (w : Row) → 5 < length w → entry_of (raised_row w) ≡ redelivered (entry_of w)
unfolding entry_of
raised-entry w h =
    let v : ℕ = unsigned (one_more (int (get_or w 5 0))) in
    let e : int (get_or (set w 5 v) 5 0) ≡ one_more (int (get_or w 5 0)) =
    ap int (get_or-set_same w 5 v 0 h) ∙ int-unsigned (one_more (int (get_or w 5 0))) (one_more-fits (int (get_or w 5 0)) (int-fits (get_or w 5 0))) in
    rw
    (e, word_kept w 5 v 0 (below (omega arith)), word_kept w 5 v 1 (below (omega arith)), word_kept w 5 v 2 (below (omega arith)), word_kept w 5 v 3 (below (omega arith)), word_kept w 5 v 4 (below (omega arith)), word_kept w 5 v 9 (above (omega arith)))

-- a freed row is freed
pub freed-is : (tx : Bool) (w : Row) → 7 < length w → is_freed (freed_row tx w) ≡ true
freed-is true w h = rw (word_kept (set w 7 1) 8 1 7 (below (omega arith)), get_or-set_same w 7 1 0 h)
freed-is false w h = rw (get_or-set_same w 7 1 0 h)

-- ---- a row as it goes out

pub flown-row : (n : ℕ) (w : Row) → length w ≡ 10 → inflight_at (flown_row n w) ≡ inflight_of n (entry_of w)
flown-row n w e =
    let a : Row = set w 6 n in
    let b : Row = set a 7 0 in
    let k : 8 < length b = simp length-set (omega arith) in
    let h : 7 < length a = simp length-set (omega arith) in
    let six : get_or (set b 8 0) 6 0 ≡ n = word_kept b 8 0 6 (below (omega arith)) ∙ word_kept a 7 0 6 (below (omega arith)) ∙ get_or-set_same w 6 n 0 (omega arith) in
    let seven : get_or (set b 8 0) 7 0 ≡ 0 = word_kept b 8 0 7 (below (omega arith)) ∙ get_or-set_same a 7 0 0 h in
    let eight : get_or (set b 8 0) 8 0 ≡ 0 = get_or-set_same b 8 0 0 k in
    let entry : entry_of (set b 8 0) ≡ entry_of w = place_kept b 8 0 (omega arith) (omega arith) ∙ place_kept a 7 0 (omega arith) (omega arith) ∙ place_kept w 6 n (omega arith) (omega arith) in
    λ j. record { dseq = six j; entry = entry j; freed = flag (seven j); tx = flag (eight j) }
