-- What is claimed of the check and the lookup; proofs/Theorems.antt has the proofs. Assumes nothing.
use Rattle.std.specs.Prelude.{ℕ, zero, suc, ◌≤◌, ◌<◌, ◌≡◌, Bool, true, false, not, ◌&&◌, ◌||◌, List, [], ◌∷◌, eqb, ltb, length}
use Rattle.words.specs.Pick.{all}
use Rattle.words.specs.Places.{CheckPlace, ◌when◌, Exact}
use Rattle.entry.specs.Entry.{bit, selects}
use Rattle.layouts.specs.Layouts.{first, last, selector, covers, cover_count, table_in_range, says, checked, selector_at, match_word, looked_up}

-- ---- the check

-- the lowest layout that no row covers
pub record LowestGap (t : List (List ℕ)) (l : ℕ) : Type 0 where
  pub layout : l ≤ 65535
  pub none : cover_count t l ≡ 0
  pub below : (k : ℕ) → k < l → 0 < cover_count t k

-- the lowest layout that two rows cover; each layout is covered
pub record LowestOverlap (t : List (List ℕ)) (l : ℕ) : Type 0 where
  pub layout : l ≤ 65535
  pub two : 2 ≤ cover_count t l
  pub below : (k : ℕ) → k < l → cover_count t k ≡ 1
  pub covered : (k : ℕ) → k ≤ 65535 → 0 < cover_count t k

-- beside 12 stands the lowest layout that no row covers
abbrev pub GapIsLowest : Type 0
GapIsLowest = (t : List (List ℕ)) → (checked t).refusal ≡ 12 → LowestGap t (checked t).answer

-- beside 13 stands the lowest layout that two rows cover
abbrev pub OverlapIsLowest : Type 0
OverlapIsLowest = (t : List (List ℕ)) → (checked t).refusal ≡ 13 → LowestOverlap t (checked t).answer

-- an accepted table covers each layout exactly once
abbrev pub AcceptedOnce : Type 0
AcceptedOnce = (t : List (List ℕ)) → (checked t).refusal ≡ 0 → (l : ℕ) → l ≤ 65535 → cover_count t l ≡ 1

-- and a table in range that does is accepted
abbrev pub OnceAccepted : Type 0
OnceAccepted = (t : List (List ℕ)) → table_in_range t ≡ true → ((l : ℕ) → l ≤ 65535 → cover_count t l ≡ 1) → checked t ≡ says 0 0

-- ---- which number, and when

-- a row that is out of range
abbrev pub out_of_range : List ℕ → Bool
out_of_range row = ltb 65535 (first row) || (ltb 65535 (last row) || (ltb 63 (selector row) || ltb (last row) (first row)))

-- one of the layouts below n is so
abbrev pub one_below : (ℕ → Bool) → ℕ → Bool
one_below p zero = false
one_below p (suc n) = p n || one_below p n

-- the check's places: 3 for more than 64 rows or one out of range; 12 where a layout is covered by no row; 13 where one is covered by two or more
abbrev pub layout_places : List (List ℕ) → List CheckPlace
layout_places t =
    3 when (ltb 64 (length t) || not (all (λ row. not (out_of_range row)) t))
    ∷ 12 when one_below (λ l. eqb (cover_count t l) 0) 65536
    ∷ 13 when one_below (λ l. ltb 1 (cover_count t l)) 65536
    ∷ []

-- the check refuses exactly so, and the lookup too, after 3 for a layout above 65,535; beside 3 the answer is 0 (beside 12 and 13, `GapIsLowest` and `OverlapIsLowest`)
abbrev pub CheckRefuses : Type 0
CheckRefuses = (t : List (List ℕ)) → Exact (checked t).refusal (layout_places t) × ((checked t).refusal ≡ 3 → (checked t).answer ≡ 0)

abbrev pub LookupRefuses : Type 0
LookupRefuses = (t : List (List ℕ)) (l : ℕ) →
    Exact (looked_up t l).refusal (3 when ltb 65535 l ∷ layout_places t) × ((looked_up t l).refusal ≡ 3 → (looked_up t l).answer ≡ 0)

-- and beside 12 and 13 it answers what the check does
abbrev pub LookupAsChecked : Type 0
LookupAsChecked = (t : List (List ℕ)) (l : ℕ) → l ≤ 65535 → ((checked t).refusal ≡ 0 → ⊥) → looked_up t l ≡ checked t

-- ---- the lookup

-- accepted: the layout is in range, the table is accepted, and the word is that of the row that covers the layout
pub record LookedUp (t : List (List ℕ)) (l w : ℕ) : Type 0 where
  pub layout : l ≤ 65535
  pub table : (checked t).refusal ≡ 0
  pub word : w ≡ match_word (selector_at t l)

abbrev pub LookupAccepts : Type 0
LookupAccepts = (t : List (List ℕ)) (l : ℕ) → (looked_up t l).refusal ≡ 0 → LookedUp t l (looked_up t l).answer

-- a looked-up word has the selector's bit and no other
pub record OneBit (w s : ℕ) : Type 0 where
  pub below : s < 64
  pub bits : (k : ℕ) → bit w k ≡ eqb s k

abbrev pub LookupOneBit : Type 0
LookupOneBit = (t : List (List ℕ)) (l : ℕ) → (looked_up t l).refusal ≡ 0 → OneBit (looked_up t l).answer (selector_at t l)

-- whether a row with this selector covers the layout
abbrev pub reads : List (List ℕ) → ℕ → ℕ → Bool
reads [] s l = false
reads (row ∷ rows) s l = (eqb (selector row) s && covers row l) || reads rows s l

-- a selector accepts the looked-up word exactly if a row with that selector covers the layout
abbrev pub SelectsExactly : Type 0
SelectsExactly = (t : List (List ℕ)) (l s : ℕ) → (looked_up t l).refusal ≡ 0 → s < 64 → selects (looked_up t l).answer s ≡ reads t s l
