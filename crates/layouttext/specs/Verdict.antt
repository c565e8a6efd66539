-- What is said of a text of rows. Assumes nothing.
use Rattle.std.specs.Prelude.{Option, Some, None, ℕ, suc, ◌+◌, List, [], ◌∷◌, eqb, length, get_or, drop}
use Rattle.words.specs.Pick.{whether◌then◌else◌}
use Rattle.layouts.specs.declared.Checked.{Checked}
use Rattle.layouts.specs.Layouts.{covers, checked}
use Rattle.texting.specs.Lines.{lines_of}
use Rattle.layouttext.specs.declared.Fault.{Fault}
use Rattle.layouttext.specs.Rows.{Reading, read_from}

-- a line at fault, with its number and what is wrong; a layout that no row covers; a layout that two rows cover, with the line of each and the row;
-- or so many rows, which cover each layout once
pub data Verdict : Type 0 where
  fault : ℕ → Fault → Verdict
  gap : ℕ → Verdict
  overlap : ℕ → ℕ → List ℕ → ℕ → List ℕ → Verdict
  accepted : ℕ → Verdict

-- the place of the first row that covers a layout; past the end where none does
unfoldable pub cover_at : ℕ → List (List ℕ) → ℕ
cover_at l [] = 0
cover_at l (row ∷ rows) = whether covers row l then 0 else suc (cover_at l rows)

-- the place of the next one
abbrev pub next_cover : ℕ → List (List ℕ) → ℕ
next_cover l rows = cover_at l rows + 1 + cover_at l (drop (cover_at l rows + 1) rows)

-- the first two rows that cover a layout
abbrev pub overlapping : List (List ℕ) → List ℕ → ℕ → Verdict
overlapping rows lines l =
    let i = cover_at l rows in
    let j = next_cover l rows in
    overlap l (get_or lines i 0) (get_or rows i []) (get_or lines j 0) (get_or rows j [])

-- what the check answers, in these rows
abbrev pub found : List (List ℕ) → List ℕ → Checked → Verdict
found rows lines c = whether eqb c.refusal 12 then gap c.answer else whether eqb c.refusal 13 then overlapping rows lines c.answer else accepted (length rows)

-- a line at fault comes before what the check answers
abbrev pub fault_before : Option Fault → ℕ → Verdict → Verdict
fault_before None n v = v
fault_before (Some f) n v = fault n f

abbrev pub judged : Reading → Verdict
judged r = fault_before r.fault r.line (found r.rows r.lines (checked r.rows))

-- a text, its lines counted from 1
abbrev pub reading_of : List ℕ → Reading
reading_of text = read_from [] [] 1 (lines_of text)

unfoldable pub verdict_of : List ℕ → Verdict
verdict_of text = judged (reading_of text)
