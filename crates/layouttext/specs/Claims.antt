-- What is claimed of a verdict; proofs/Theorems.antt has the proofs. Assumes nothing.
use Rattle.std.specs.Prelude.{Some, None, ℕ, ◌<◌, ◌≡◌, true, List, [], length, get_or}
use Rattle.layouts.specs.declared.Checked.{Checked}
use Rattle.layouts.specs.Layouts.{covers, table_in_range, says, checked}
use Rattle.layouttext.specs.declared.Fault.{Fault}
use Rattle.layouttext.specs.Verdict.{Verdict, fault, gap, accepted, cover_at, next_cover, overlapping, reading_of, verdict_of}

-- the rows taken from any text are at most 64, and in range; so the check of them never answers 3
abbrev pub RowsInRange : Type 0
RowsInRange = (text : List ℕ) → table_in_range (reading_of text).rows ≡ true

-- a line at fault is said first
abbrev pub FaultFirst : Type 0
FaultFirst = (text : List ℕ) (f : Fault) → (reading_of text).fault ≡ Some f → verdict_of text ≡ fault (reading_of text).line f

-- the two rows of an overlap: two places, both in the table, of rows that cover the layout
pub record Two (l : ℕ) (t : List (List ℕ)) : Type 0 where
  pub order : cover_at l t < next_cover l t
  pub within : next_cover l t < length t
  pub row : covers (get_or t (cover_at l t) []) l ≡ true
  pub other : covers (get_or t (next_cover l t) []) l ≡ true

-- the check's answer beside what is said: in these three ways only
pub data Said (rows : List (List ℕ)) (lines : List ℕ) : Checked → Verdict → Type 0 where
  fine : Said rows lines (says 0 0) (accepted (length rows))
  gapped : (l : ℕ) → Said rows lines (says 12 l) (gap l)
  doubled : (l : ℕ) → Two l rows → Said rows lines (says 13 l) (overlapping rows lines l)

-- where no line is at fault, what is said is what the check answers
abbrev pub VerdictRight : Type 0
VerdictRight = (text : List ℕ) → (reading_of text).fault ≡ None → Said (reading_of text).rows (reading_of text).lines (checked (reading_of text).rows) (verdict_of text)
