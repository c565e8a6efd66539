-- The rows of a text, a row a line: first, last, selector. Assumes nothing.
use Rattle.std.specs.Prelude.{Option, Some, None, Result, Ok, Err, ℕ, ◌+◌, ◌≤◌, ◌≡◌, List, [], ◌∷◌, ◌++◌, eqb, ltb, length, take, set, replicate}
use Rattle.words.specs.Pick.{whether◌then◌else◌}
use Rattle.stats.specs.Counted.{more}
use Rattle.textwords.specs.Text.{words_of, plain}
use Rattle.textwords.specs.Numbers.{number_of}
use Rattle.layouts.specs.Layouts.{first, last, selector}
use Rattle.layouttext.specs.declared.Fault.{Fault}
use Rattle.layouttext.specs.declared.Fault.TheVariants.{NotARow, FirstOut, LastOut, SelectorOut, FirstAbove, ManyRows}
use Rattle.layouttext.specs.declared.Read.{Read}

-- ---- a line

-- what a line is: a row, nothing, or at fault
abbrev pub ParsedRow : Type 0
ParsedRow = Result (Option (List ℕ)) Fault

-- what is done with a line: with its row, with nothing, or with its fault
abbrev pub on_line : {A : Type 0} → ParsedRow → (List ℕ → A) → A → (Fault → A) → A
on_line (Ok (Some row)) f e g = f row
on_line (Ok None) f e g = e
on_line (Err x) f e g = g x

-- what is done with a number
abbrev pub row_number : Option ℕ → (ℕ → ParsedRow) → ParsedRow
row_number None f = Err NotARow
row_number (Some v) f = f v

-- a row has three words, each a number, which go to the places from n on; a line without words is empty
unfoldable pub gather_row : ℕ → List ℕ → List (List ℕ) → ParsedRow
gather_row n row [] = whether eqb n 3 then Ok (Some row) else whether eqb n 0 then Ok None else Err NotARow
gather_row n row (w ∷ ws) = whether eqb n 3 then Err NotARow else row_number (number_of w) (λ v. gather_row (n + 1) (set row n v) ws)

-- the words before a line's remark
unfoldable pub line_row : List ℕ → ParsedRow
line_row line = gather_row 0 (replicate 3 0) (words_of (plain line))

-- ---- what is wrong with it

-- the first or the last is above 65,535, the selector is above 63, the first is above the last; or nothing
unfoldable pub row_fault : List ℕ → Option Fault
row_fault row =
    whether ltb 65535 (first row) then Some FirstOut
    else whether ltb 65535 (last row) then Some LastOut
    else whether ltb 63 (selector row) then Some SelectorOut
    else whether ltb (last row) (first row) then Some FirstAbove
    else None

-- a row, by what is wrong with it
abbrev pub judged_row : List ℕ → Option Fault → ParsedRow
judged_row row None = Ok (Some row)
judged_row row (Some f) = Err f

-- a line after so many rows: one more row, empty, or at fault as above, or since it is the 65th row
unfoldable pub line_kind : ℕ → ParsedRow → ParsedRow
line_kind count (Ok (Some row)) = whether ltb 63 count then Err ManyRows else judged_row row (row_fault row)
line_kind count (Ok None) = Ok None
line_kind count (Err f) = Err f

-- ---- a text

-- its rows, the number of each one's line, and what ended the reading: the fault of that line, or the end of the text
pub record Reading : Type 0 where
  pub rows : List (List ℕ)
  pub lines : List ℕ
  pub fault : Option Fault
  pub line : ℕ

abbrev pub row_reading : List (List ℕ) → List ℕ → Option Fault → ℕ → Reading
row_reading rows lines fault n = record { rows = rows; lines = lines; fault = fault; line = n }

-- line after line, up to the first at fault; n is the number of the next line, counted up to 2^64 - 1
unfoldable pub read_from : List (List ℕ) → List ℕ → ℕ → List (List ℕ) → Reading
read_from rows lines n [] = row_reading rows lines None n
read_from rows lines n (l ∷ ls) = on_line (line_kind (length rows) (line_row l)) (λ row. read_from (rows ++ (row ∷ [])) (lines ++ (n ∷ [])) (more n) ls) (read_from rows lines (more n) ls) (λ f. row_reading rows lines (Some f) n)

-- what a reading leaves in lent buffers, and answers
pub record Reads (x : Reading) (r : Read) (table : List (List ℕ)) (marks : List ℕ) : Type 0 where
  pub fault : r.fault ≡ x.fault
  pub line : r.line ≡ x.line
  pub rows : take r.count table ≡ x.rows
  pub lines : take r.count marks ≡ x.lines
  pub few : r.count ≤ 64

-- a line's row stands after the others, and so does the line's number; a line of any other kind changes nothing
pub record RowKept (count n : ℕ) (p : ParsedRow) (table : List (List ℕ)) (marks : List ℕ) (r : ℕ) (table' : List (List ℕ)) (marks' : List ℕ) : Type 0 where
  pub next : r ≡ on_line p (λ row. count + 1) count (λ f. count)
  pub rows : table' ≡ on_line p (λ row. set table count row) table (λ f. table)
  pub lines : marks' ≡ on_line p (λ row. set marks count n) marks (λ f. marks)
