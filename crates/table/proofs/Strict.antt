-- Rows that a function made or changed, whose words in use are strict. Assumes nothing.
use mathlib.Core.Path.{◌≡◌, refl, ap, ◌∙◌}
use mathlib.Core.Bool.{Bool, true, false, ◌&&◌}
use mathlib.Core.List.{[], ◌∷◌}
use Prim.Native.Nat.{ℕ, zero, suc, ◌≤◌}
use native.Mathlib.Omega.{arith}
use lib.ListN.{get_or, set}
use mir.Syntax.{w32}
use mir.Val.{SFits, bool_byte}
use Rattle.words.specs.Words.{unsigned, int, is_int}
use Rattle.words.proofs.Words.{int-fits, is-int-unsigned, flag_small}
use borrow.Author.Tests.{le-leb}
use Rattle.entry.specs.declared.Entry.{Entry}
use Rattle.entry.specs.Entry.{one_more, row_of}
use Rattle.entry.proofs.Redelivery.{one_more-fits}
use Rattle.definition.specs.Base.{whether◌then◌else◌}
use Rattle.definition.specs.Layout.{is_mark, entry_strict, flying_strict, Row}
use Rattle.definition.proofs.Tests.{and_left, and_right, and_both}
use Rattle.table.specs.Table.{dseq_between, freed_row, mark_row, raised_row, redeliver_row, unmark_row, flown_row}
use Rattle.table.proofs.Rows.{word_kept, below, above}

-- a row of an entry is strict, in whatever place
pub row-strict : (e : Entry) (a b c : ℕ) → SFits w32 e.redelivery → entry_strict (row_of e a b c) ≡ true
unfolding entry_strict row_of
row-strict e a b c f = and_both (is_mark (bool_byte e.persistent)) _ (le-leb (bool_byte e.persistent) 1 (flag_small e.persistent)) (is-int-unsigned e.redelivery f)

-- and in flight as well, as it is sent
pub sent-strict : (e : Entry) (dseq : ℕ) → SFits w32 e.redelivery → flying_strict (row_of e dseq 0 0) ≡ true
unfolding flying_strict row_of
sent-strict e dseq f = and_both (entry_strict (row_of e dseq 0 0)) _ (row-strict e dseq 0 0 f) refl

-- the words of the place are no part of the entry
pub place-strict : (w : Row) (k v : ℕ) → 6 ≤ k → entry_strict (set w k v) ≡ entry_strict w
unfolding entry_strict
place-strict w k v h = rw (word_kept w k v 2 (below (omega arith)), word_kept w k v 5 (below (omega arith)))

-- a word that was set, or 0 where the row has none there
pub word_set : (P : ℕ → Bool) (w : Row) (k v : ℕ) → P v ≡ true → P 0 ≡ true → P (get_or (set w k v) k 0) ≡ true
word_set P [] k v p z = z
word_set P (x ∷ w) zero v p z = p
word_set P (x ∷ w) (suc k) v p z = word_set P w k v p z

mark_set : (w : Row) (k v : ℕ) → is_mark v ≡ true → is_mark (get_or (set w k v) k 0) ≡ true
mark_set w k v p = word_set is_mark w k v p refl

pub flown-strict : (dseq : ℕ) (w : Row) → entry_strict w ≡ true → flying_strict (flown_row dseq w) ≡ true
unfolding flying_strict
flown-strict dseq w s =
    let a : Row = set w 6 dseq in
    let b : Row = set a 7 0 in
    let seven : is_mark (get_or (set b 8 0) 7 0) ≡ true = ap is_mark (word_kept b 8 0 7 (below (omega arith))) ∙ mark_set a 7 0 refl in
    and_both (entry_strict (set b 8 0)) _ (place-strict b 8 0 (omega arith) ∙ place-strict a 7 0 (omega arith) ∙ place-strict w 6 dseq (omega arith) ∙ s) (and_both (is_mark (get_or (set b 8 0) 7 0)) _ seven (mark_set b 8 0 refl))

-- ---- a change of a row in flight

-- freed or tx set to a mark
pub marked-strict : (w : Row) (v : ℕ) → is_mark v ≡ true → flying_strict w ≡ true → (flying_strict (set w 7 v) ≡ true) × (flying_strict (set w 8 v) ≡ true)
unfolding flying_strict
marked-strict w v p s =
    let e = and_left (entry_strict w) _ s in
    let m = and_right (entry_strict w) _ s in
    let seven = and_left (is_mark (get_or w 7 0)) _ m in
    let eight = and_right (is_mark (get_or w 7 0)) _ m in (
      and_both (entry_strict (set w 7 v)) _ (place-strict w 7 v (omega arith) ∙ e) (and_both (is_mark (get_or (set w 7 v) 7 0)) _ (mark_set w 7 v p) (ap is_mark (word_kept w 7 v 8 (above (omega arith))) ∙ eight)),
      and_both (entry_strict (set w 8 v)) _ (place-strict w 8 v (omega arith) ∙ e) (and_both (is_mark (get_or (set w 8 v) 7 0)) _ (ap is_mark (word_kept w 8 v 7 (below (omega arith))) ∙ seven) (mark_set w 8 v p)),
    )

pub freed-strict : (tx : Bool) (w : Row) → flying_strict w ≡ true → flying_strict (freed_row tx w) ≡ true
freed-strict false w s = (marked-strict w 1 refl s).0
freed-strict true w s = (marked-strict (set w 7 1) 1 refl (marked-strict w 1 refl s).0).1

pub unmark-strict : (w : Row) → flying_strict w ≡ true → flying_strict (unmark_row w) ≡ true
unmark-strict w s = (marked-strict w 0 refl s).1

pub raised-strict : (w : Row) → flying_strict w ≡ true → flying_strict (raised_row w) ≡ true
unfolding flying_strict entry_strict
raised-strict w s =
    let v : ℕ = unsigned (one_more (int (get_or w 5 0))) in
    let x = and_left (entry_strict w) _ s in
    let five : is_int (get_or (set w 5 v) 5 0) ≡ true = word_set is_int w 5 v (is-int-unsigned _ (one_more-fits _ (int-fits (get_or w 5 0)))) refl in
    rw (word_kept w 5 v 2 (below (omega arith)), word_kept w 5 v 7 (above (omega arith)), word_kept w 5 v 8 (above (omega arith)))
    (and_both (is_mark (get_or w 2 0) && is_int (get_or (set w 5 v) 5 0)) _ (and_both (is_mark (get_or w 2 0)) _ (and_left (is_mark (get_or w 2 0)) _ x) five) (and_right (entry_strict w) _ s))

-- where a test picks the rows
pub mark-strict : (first last : ℕ) (tx : Bool) (w : Row) → flying_strict w ≡ true → flying_strict (mark_row first last tx w) ≡ true
mark-strict first last tx w s = by (dseq_between first last w)
  where
    by : (b : Bool) → flying_strict (whether b then freed_row tx w else w) ≡ true
    by true = freed-strict tx w s
    by false = s

pub redeliver-strict : (first last : ℕ) (w : Row) → flying_strict w ≡ true → flying_strict (redeliver_row first last w) ≡ true
redeliver-strict first last w s = by (dseq_between first last w)
  where
    by : (b : Bool) → flying_strict (whether b then raised_row w else w) ≡ true
    by true = raised-strict w s
    by false = s
