-- Document 02 §8, a table of layouts: what its check and its lookup answer. A row is a first layout, a last layout and a selector.
-- Assumes nothing.
use Rattle.std.specs.Prelude.{ℕ, zero, suc, ◌+◌, ◌^◌, Bool, true, false, not, ◌&&◌, List, [], ◌∷◌, eqb, leb, ltb, length, get_or}
use Rattle.words.specs.Pick.{whether◌then◌else◌}
use Rattle.layouts.specs.declared.Checked.{Checked}

-- ---- a row

abbrev pub first : List ℕ → ℕ
first row = get_or row 0 0

abbrev pub last : List ℕ → ℕ
last row = get_or row 1 0

abbrev pub selector : List ℕ → ℕ
selector row = get_or row 2 0

-- whether a row covers a layout, both ends included
unfoldable pub covers : List ℕ → ℕ → Bool
covers row l = leb (first row) l && leb l (last row)

-- layouts are 0 to 65,535, selectors 0 to 63, and the first is not above the last
unfoldable pub row_in_range : List ℕ → Bool
row_in_range row = leb (first row) 65535 && (leb (last row) 65535 && (leb (selector row) 63 && leb (first row) (last row)))

-- ---- a table

abbrev pub one : Bool → ℕ
one true = 1
one false = 0

-- how many rows cover a layout
abbrev pub cover_count : List (List ℕ) → ℕ → ℕ
cover_count [] l = 0
cover_count (row ∷ rows) l = one (covers row l) + cover_count rows l

abbrev pub all_in_range : List (List ℕ) → Bool
all_in_range [] = true
all_in_range (row ∷ rows) = row_in_range row && all_in_range rows

-- up to 64 rows, each in range
unfoldable pub table_in_range : List (List ℕ) → Bool
table_in_range t = leb (length t) 64 && all_in_range t

-- the lowest of `count` numbers from `from` on with a property; `from + count` where none has it
unfoldable pub lowest : (ℕ → Bool) → ℕ → ℕ → ℕ
lowest p from zero = from
lowest p from (suc count) = whether p from then from else lowest p (suc from) count

-- no row covers the layout
abbrev pub is_gap : List (List ℕ) → ℕ → Bool
is_gap t l = eqb (cover_count t l) 0

-- two rows cover it, or more
abbrev pub is_overlap : List (List ℕ) → ℕ → Bool
is_overlap t l = ltb 1 (cover_count t l)

-- the lowest layout that no row covers, and the lowest that two cover: 65,536 for none
unfoldable pub lowest_gap : List (List ℕ) → ℕ
lowest_gap t = lowest (is_gap t) 0 65536

unfoldable pub lowest_overlap : List (List ℕ) → ℕ
lowest_overlap t = lowest (is_overlap t) 0 65536

-- ---- what the check and the lookup answer

abbrev pub says : ℕ → ℕ → Checked
says refusal answer = record { refusal = refusal; answer = answer }

-- 3: out of range. 12: a gap, also where there is an overlap too. 13: an overlap. Beside 12 and 13 the layout found
unfoldable pub checked : List (List ℕ) → Checked
checked t =
    whether not (table_in_range t) then says 3 0
    else whether ltb (lowest_gap t) 65536 then says 12 (lowest_gap t)
    else whether ltb (lowest_overlap t) 65536 then says 13 (lowest_overlap t)
    else says 0 0

-- the selector of the first row that covers a layout; 0 for none
abbrev pub selector_at : List (List ℕ) → ℕ → ℕ
selector_at [] l = 0
selector_at (row ∷ rows) l = whether covers row l then selector row else selector_at rows l

-- the match word with one selector's bit
abbrev pub match_word : ℕ → ℕ
match_word s = 2 ^ s

unfoldable pub looked_up : List (List ℕ) → ℕ → Checked
looked_up t l =
    whether ltb 65535 l then says 3 0
    else whether eqb (checked t).refusal 0 then says 0 (match_word (selector_at t l))
    else checked t
