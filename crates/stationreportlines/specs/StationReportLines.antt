-- The lines of a report of a station, as bytes: those of a report with their destination's number, and two that only a station has. Assumes nothing.
use Rattle.std.specs.Prelude.{ℕ, Bool, List, ◌∷◌, ◌++◌}
use Rattle.definition.specs.Words.{at}
use Rattle.fates.specs.Blocks.{Block}
use Rattle.callfile.specs.Lines.{field, newline}
use Rattle.reportlines.specs.declared.Ways.{Ways}
use Rattle.reportlines.specs.declared.Gone.{Gone}
use Rattle.reportlines.specs.ReportLines.{ways_fields, brought_line, block_line, totals_line}
use Rattle.stationlines.specs.StationLines.{numbered_line, row_lines}

-- ---- of a call

-- `c` index D code refusal, and how many blocks the destination D holds in each way
unfoldable pub station_turn_line : ℕ → ℕ → ℕ → ℕ → Ways → List ℕ
station_turn_line index d code refusal w = 99 ∷ (field index ++ (field d ++ (field code ++ (field refusal ++ (ways_fields w ++ newline)))))

-- `w` E, and how many blocks this other queue holds in each way
unfoldable pub ways_line : ℕ → Ways → List ℕ
ways_line e w = 119 ∷ (field e ++ (ways_fields w ++ newline))

-- what an accepted call on D brought: `j` D ID flags of a join, `e` D number persistent of an enqueue on a queue
abbrev pub brought_line_on : ℕ → ℕ → ℕ → List ℕ → Bool → List ℕ
brought_line_on d refusal code ws on_queue = numbered_line d (brought_line refusal code ws on_queue)

-- ---- of rows

-- `l` D number got E, of a dead letter's row: the number that it had, the one that it got, the destination that stored it
unfoldable pub told_line : ℕ → List ℕ → List ℕ
told_line d r = 108 ∷ (field d ++ (field (at 0 r) ++ (field (at 1 r) ++ (field (at 2 r) ++ newline))))

abbrev pub told_text : ℕ → List (List ℕ) → List ℕ
told_text d rows = row_lines (told_line d) rows

-- `f` D number place persistent
abbrev pub block_line_on : ℕ → Block → List ℕ
block_line_on d b = numbered_line d (block_line b)

abbrev pub blocks_text_on : ℕ → List Block → List ℕ
blocks_text_on d bs = row_lines (block_line_on d) bs

-- ---- the last lines

-- `t` D and how many blocks are in each of the eight places
abbrev pub totals_line_on : ℕ → Ways → Gone → List ℕ
totals_line_on d w g = numbered_line d (totals_line w g)
