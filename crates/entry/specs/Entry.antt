-- entry.rs: an entry, when it is expired, its redelivery counter, and the row of words that holds it. Assumes nothing.
use Rattle.std.specs.Prelude.{ℕ, ◌/◌, ◌%◌, ◌^◌, Bool, true, not, ◌&&◌, List, [], ◌∷◌, eqb, ltb, ℤ, pos, get_or}
use Rattle.std.proofs.Math.IntN.{suc_ℤ}
use Rattle.std.specs.Int.Signed.{lt_z, le_z}
use mir.Val.{bool_byte}
use Rattle.words.specs.Pick.{whether◌then◌else◌}
use Rattle.words.specs.Words.{signed, unsigned, int}
use Rattle.entry.specs.declared.Entry.{Entry}

-- Entry::expired: expiration > 0 && expiration <= now
unfoldable pub expired : ℤ → Entry → Bool
expired now e = lt_z (pos 0) e.expiration && le_z e.expiration now

-- i32: saturating_add(1)
unfoldable pub one_more : ℤ → ℤ
one_more r = whether lt_z r (pos 2147483647) then suc_ℤ r else r

abbrev pub with_redelivery : ℤ → Entry → Entry
with_redelivery x e = record { seq = e.seq; expiration = e.expiration; producer = e.producer; match_word = e.match_word; redelivery = x; persistent = e.persistent; size = e.size }

-- `e.redelivery = e.redelivery.saturating_add(1)`
abbrev pub redelivered : Entry → Entry
redelivered e = with_redelivery (one_more e.redelivery) e

-- bit k of a word
abbrev pub bit : ℕ → ℕ → Bool
bit w k = eqb (w / 2 ^ k % 2) 1

-- bit s of a match word says whether selector s accepts; 64 is no selector, which accepts every entry
unfoldable pub selects : ℕ → ℕ → Bool
selects w s = whether ltb s 64 then bit w s else true

-- a row of ten words: six of the entry, and its size in the last
unfoldable pub entry_of : List ℕ → Entry
entry_of w = record { seq = get_or w 0 0; expiration = signed (get_or w 1 0); producer = get_or w 3 0; match_word = get_or w 4 0; redelivery = int (get_or w 5 0); persistent = not (eqb (get_or w 2 0) 0); size = get_or w 9 0 }

-- and three of its place before that
unfoldable pub row_of : Entry → ℕ → ℕ → ℕ → List ℕ
row_of e a b c = e.seq ∷ unsigned e.expiration ∷ bool_byte e.persistent ∷ e.producer ∷ e.match_word ∷ unsigned e.redelivery ∷ a ∷ b ∷ c ∷ e.size ∷ []

-- a row whose entry has expired by the clock that a word holds
abbrev pub expired_row : ℕ → List ℕ → Bool
expired_row clock w = expired (signed clock) (entry_of w)
