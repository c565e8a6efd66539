-- An entry and the row that holds it: the round trip both ways, and their ranges. Assumes nothing.
use mathlib.Core.Path.{◌≡◌, refl, sym, ap, ◌∙◌}
use mathlib.Core.Bool.{true}
use mathlib.Core.List.{List, [], ◌∷◌}
use Prim.Native.Nat.{ℕ, zero, suc, ◌≤◌, ◌<◌, ◌^◌}
use native.Mathlib.Omega.{arith}
use lib.ListN.{length, get_or}
use mir.Syntax.{w32, w64}
use mir.Val.{SFits, bool_byte}
use Rattle.words.specs.Words.{unsigned, is_int}
use Rattle.words.proofs.Words.{signed-fits, unsigned-fits, unsigned_signed, signed-unsigned, int-fits, int-widens, int-unsigned, unsigned-int, is-int-unsigned, flag-of-word, word-of-flag, flag_small}
use Rattle.entry.specs.declared.Entry.{Entry}
use Rattle.entry.specs.Entry.{entry_of, row_of}

-- each field in its type's range
pub record EntryFits (e : Entry) : Type 0 where
  pub seq : e.seq < 2 ^ 64
  pub expiration : SFits w64 e.expiration
  pub producer : e.producer < 2 ^ 64
  pub match_word : e.match_word < 2 ^ 64
  pub redelivery : SFits w32 e.redelivery
  pub size : e.size < 2 ^ 64

-- of a row, the redelivery is in range whatever its word
pub redelivery-fits : (w : List ℕ) → SFits w32 (entry_of w).redelivery
unfolding entry_of
redelivery-fits w = int-fits (get_or w 5 0)

-- ten words, a flag and an i32 among them
pub record RowFits (w : List ℕ) : Type 0 where
  pub ten : length w ≡ 10
  pub word : (k : ℕ) → get_or w k 0 < 2 ^ 64
  pub flag : get_or w 2 0 ≤ 1
  pub int : is_int (get_or w 5 0) ≡ true

-- ---- a list is its elements

abbrev pub elements : (ℕ → ℕ) → ℕ → List ℕ
elements f zero = []
elements f (suc n) = f 0 ∷ elements (λ k. f (suc k)) n

pub listed : (w : List ℕ) → elements (λ k. get_or w k 0) (length w) ≡ w
listed [] = refl
listed (x ∷ xs) = ap (λ (l : List ℕ). x ∷ l) (listed xs)

pub ten-words : (w : List ℕ) → length w ≡ 10
    → get_or w 0 0 ∷ get_or w 1 0 ∷ get_or w 2 0 ∷ get_or w 3 0 ∷ get_or w 4 0 ∷ get_or w 5 0 ∷ get_or w 6 0 ∷ get_or w 7 0 ∷ get_or w 8 0 ∷ get_or w 9 0 ∷ [] ≡ w
ten-words w e = ap (elements (λ k. get_or w k 0)) (sym e) ∙ listed w

-- ---- the round trip

pub entry-of-row : (e : Entry) (a b c : ℕ) → EntryFits e → entry_of (row_of e a b c) ≡ e
unfolding entry_of row_of
entry-of-row e a b c f = rw (signed-unsigned e.expiration f.expiration, int-unsigned e.redelivery f.redelivery, flag-of-word e.persistent)

pub row-of-entry : (w : List ℕ) → RowFits w → row_of (entry_of w) (get_or w 6 0) (get_or w 7 0) (get_or w 8 0) ≡ w
unfolding entry_of row_of
row-of-entry w f = rw (unsigned_signed (get_or w 1 0) (f.word 1), unsigned-int (get_or w 5 0) (f.word 5) f.int, word-of-flag (get_or w 2 0) f.flag) (ten-words w f.ten)

-- the words of the place come back as they are
pub place-of-row : (e : Entry) (a b c : ℕ) → (get_or (row_of e a b c) 6 0 ≡ a) × (get_or (row_of e a b c) 7 0 ≡ b) × (get_or (row_of e a b c) 8 0 ≡ c)
unfolding row_of
place-of-row e a b c = (refl, refl, refl)

-- ---- ranges

pub entry-fits : (w : List ℕ) → ((k : ℕ) → get_or w k 0 < 2 ^ 64) → EntryFits (entry_of w)
unfolding entry_of
entry-fits w h = record { seq = h 0; expiration = signed-fits (get_or w 1 0) (h 1); producer = h 3; match_word = h 4; redelivery = int-fits (get_or w 5 0); size = h 9 }

-- words, one after the other
data Words : List ℕ → Type 0 where
  none : Words []
  word : {x : ℕ} {xs : List ℕ} → x < 2 ^ 64 → Words xs → Words (x ∷ xs)

at : {w : List ℕ} → Words w → (k : ℕ) → get_or w k 0 < 2 ^ 64
at none k = omega arith
at (word h t) zero = h
at (word h t) (suc k) = at t k

pub row_fits : (e : Entry) (a b c : ℕ) → EntryFits e → a < 2 ^ 64 → b < 2 ^ 64 → c < 2 ^ 64 → RowFits (row_of e a b c)
unfolding row_of
row_fits e a b c f ha hb hc =
    let flag : bool_byte e.persistent < 2 ^ 64 = omega (arith, flag_small e.persistent) in
    let counter : unsigned e.redelivery < 2 ^ 64 = unsigned-fits e.redelivery (int-widens e.redelivery f.redelivery) in
    let place : Words (a ∷ b ∷ c ∷ e.size ∷ []) = word ha (word hb (word hc (word f.size none))) in
    let rest : Words (e.producer ∷ e.match_word ∷ unsigned e.redelivery ∷ a ∷ b ∷ c ∷ e.size ∷ []) = word f.producer (word f.match_word (word counter place)) in
    record {
      ten = refl;
      word = at (word f.seq (word (unsigned-fits e.expiration f.expiration) (word flag rest)));
      flag = flag_small e.persistent;
      int = is-int-unsigned e.redelivery f.redelivery;
    }
