-- A verdict in words, as bytes. Assumes nothing.
use Rattle.std.specs.Prelude.{ℕ, List, [], ◌∷◌, ◌++◌}
use Rattle.callfile.specs.Lines.{field, newline}
use Rattle.layouts.specs.Layouts.{first, last, selector}
use Rattle.layouttext.specs.declared.Fault.{Fault}
use Rattle.layouttext.specs.declared.Fault.TheVariants.{NotARow, FirstOut, LastOut, SelectorOut, FirstAbove, ManyRows}
use Rattle.layouttext.specs.Verdict.{Verdict, fault, gap, overlap, accepted}

-- `: not a row: want three numbers, first, last and selector`, and the end of a line
abbrev pub not_row : List ℕ
not_row = 58 ∷ 32 ∷ 110 ∷ 111 ∷ 116 ∷ 32 ∷ 97 ∷ 32 ∷ 114 ∷ 111 ∷ 119 ∷ 58 ∷ 32 ∷ 119 ∷ 97 ∷ 110 ∷ 116 ∷ 32 ∷ 116 ∷ 104 ∷ 114 ∷ 101 ∷ 101 ∷ 32 ∷ 110 ∷ 117 ∷ 109 ∷ 98 ∷ 101 ∷ 114 ∷ 115 ∷ 44 ∷ 32 ∷ 102 ∷ 105 ∷ 114 ∷ 115 ∷ 116 ∷ 44 ∷ 32 ∷ 108 ∷ 97 ∷ 115 ∷ 116 ∷ 32 ∷ 97 ∷ 110 ∷ 100 ∷ 32 ∷ 115 ∷ 101 ∷ 108 ∷ 101 ∷ 99 ∷ 116 ∷ 111 ∷ 114 ∷ 10 ∷ []

-- `: 3: first is not 0 to 65535`, and the end of a line
abbrev pub first_out : List ℕ
first_out = 58 ∷ 32 ∷ 51 ∷ 58 ∷ 32 ∷ 102 ∷ 105 ∷ 114 ∷ 115 ∷ 116 ∷ 32 ∷ 105 ∷ 115 ∷ 32 ∷ 110 ∷ 111 ∷ 116 ∷ 32 ∷ 48 ∷ 32 ∷ 116 ∷ 111 ∷ 32 ∷ 54 ∷ 53 ∷ 53 ∷ 51 ∷ 53 ∷ 10 ∷ []

-- `: 3: last is not 0 to 65535`, and the end of a line
abbrev pub last_out : List ℕ
last_out = 58 ∷ 32 ∷ 51 ∷ 58 ∷ 32 ∷ 108 ∷ 97 ∷ 115 ∷ 116 ∷ 32 ∷ 105 ∷ 115 ∷ 32 ∷ 110 ∷ 111 ∷ 116 ∷ 32 ∷ 48 ∷ 32 ∷ 116 ∷ 111 ∷ 32 ∷ 54 ∷ 53 ∷ 53 ∷ 51 ∷ 53 ∷ 10 ∷ []

-- `: 3: selector is not 0 to 63`, and the end of a line
abbrev pub selector_out : List ℕ
selector_out = 58 ∷ 32 ∷ 51 ∷ 58 ∷ 32 ∷ 115 ∷ 101 ∷ 108 ∷ 101 ∷ 99 ∷ 116 ∷ 111 ∷ 114 ∷ 32 ∷ 105 ∷ 115 ∷ 32 ∷ 110 ∷ 111 ∷ 116 ∷ 32 ∷ 48 ∷ 32 ∷ 116 ∷ 111 ∷ 32 ∷ 54 ∷ 51 ∷ 10 ∷ []

-- `: 3: first is above last`, and the end of a line
abbrev pub first_above : List ℕ
first_above = 58 ∷ 32 ∷ 51 ∷ 58 ∷ 32 ∷ 102 ∷ 105 ∷ 114 ∷ 115 ∷ 116 ∷ 32 ∷ 105 ∷ 115 ∷ 32 ∷ 97 ∷ 98 ∷ 111 ∷ 118 ∷ 101 ∷ 32 ∷ 108 ∷ 97 ∷ 115 ∷ 116 ∷ 10 ∷ []

-- `: 3: more than 64 rows`, and the end of a line
abbrev pub many_rows : List ℕ
many_rows = 58 ∷ 32 ∷ 51 ∷ 58 ∷ 32 ∷ 109 ∷ 111 ∷ 114 ∷ 101 ∷ 32 ∷ 116 ∷ 104 ∷ 97 ∷ 110 ∷ 32 ∷ 54 ∷ 52 ∷ 32 ∷ 114 ∷ 111 ∷ 119 ∷ 115 ∷ 10 ∷ []

-- `line`
abbrev pub line_word : List ℕ
line_word = 108 ∷ 105 ∷ 110 ∷ 101 ∷ []

-- `12: gap: no row covers`
abbrev pub gap_words : List ℕ
gap_words = 49 ∷ 50 ∷ 58 ∷ 32 ∷ 103 ∷ 97 ∷ 112 ∷ 58 ∷ 32 ∷ 110 ∷ 111 ∷ 32 ∷ 114 ∷ 111 ∷ 119 ∷ 32 ∷ 99 ∷ 111 ∷ 118 ∷ 101 ∷ 114 ∷ 115 ∷ []

-- `13: overlap: lines`
abbrev pub overlap_words : List ℕ
overlap_words = 49 ∷ 51 ∷ 58 ∷ 32 ∷ 111 ∷ 118 ∷ 101 ∷ 114 ∷ 108 ∷ 97 ∷ 112 ∷ 58 ∷ 32 ∷ 108 ∷ 105 ∷ 110 ∷ 101 ∷ 115 ∷ []

-- ` and`
abbrev pub and_word : List ℕ
and_word = 32 ∷ 97 ∷ 110 ∷ 100 ∷ []

-- ` both cover`
abbrev pub cover_words : List ℕ
cover_words = 32 ∷ 98 ∷ 111 ∷ 116 ∷ 104 ∷ 32 ∷ 99 ∷ 111 ∷ 118 ∷ 101 ∷ 114 ∷ []

-- `:`
abbrev pub colon : List ℕ
colon = 58 ∷ []

-- `accepted: 0 to 65535 covered once each, rows:`
abbrev pub accepted_words : List ℕ
accepted_words = 97 ∷ 99 ∷ 99 ∷ 101 ∷ 112 ∷ 116 ∷ 101 ∷ 100 ∷ 58 ∷ 32 ∷ 48 ∷ 32 ∷ 116 ∷ 111 ∷ 32 ∷ 54 ∷ 53 ∷ 53 ∷ 51 ∷ 53 ∷ 32 ∷ 99 ∷ 111 ∷ 118 ∷ 101 ∷ 114 ∷ 101 ∷ 100 ∷ 32 ∷ 111 ∷ 110 ∷ 99 ∷ 101 ∷ 32 ∷ 101 ∷ 97 ∷ 99 ∷ 104 ∷ 44 ∷ 32 ∷ 114 ∷ 111 ∷ 119 ∷ 115 ∷ 58 ∷ []

-- what is wrong with a line
unfoldable pub row_complaint : Fault → List ℕ
row_complaint NotARow = not_row
row_complaint FirstOut = first_out
row_complaint LastOut = last_out
row_complaint SelectorOut = selector_out
row_complaint FirstAbove = first_above
row_complaint ManyRows = many_rows

-- some words, and a number after a space
abbrev pub numbered : List ℕ → ℕ → List ℕ
numbered words n = words ++ field n

-- and a row's three numbers
unfoldable pub row_text : List ℕ → List ℕ → List ℕ
row_text words row = numbered words (first row) ++ (field (last row) ++ field (selector row))

unfoldable pub fault_text : ℕ → Fault → List ℕ
fault_text n f = numbered line_word n ++ row_complaint f

unfoldable pub gap_text : ℕ → List ℕ
gap_text l = numbered gap_words l ++ newline

-- the lines, and the layout
unfoldable pub both_text : ℕ → ℕ → ℕ → List ℕ
both_text l m n = numbered overlap_words m ++ (numbered and_word n ++ numbered cover_words l)

-- the rows
unfoldable pub rows_text : List ℕ → List ℕ → List ℕ
rows_text r s = row_text colon r ++ (row_text and_word s ++ newline)

unfoldable pub accepted_text : ℕ → List ℕ
accepted_text count = numbered accepted_words count ++ newline

unfoldable pub verdict_text : Verdict → List ℕ
verdict_text (fault n f) = fault_text n f
verdict_text (gap l) = gap_text l
verdict_text (overlap l m r n s) = both_text l m n ++ rows_text r s
verdict_text (accepted count) = accepted_text count
