-- The lines that a run of a station prints, as bytes: an event's line and that of the counters have their destination's number behind the letter, and one
-- line is the station's own. Assumes nothing.
use Rattle.std.specs.Prelude.{ℕ, ◌/◌, ◌%◌, List, [], ◌∷◌, ◌++◌, ltb, drop}
use Rattle.definition.specs.Base.{whether◌then◌else◌}
use Rattle.definition.specs.Types.{Stats}
use Rattle.definition.specs.Words.{at}
use Rattle.definition.specs.Layout.{Row}
use Rattle.callfile.specs.Lines.{field, newline, words_line, counters_line}

-- a line with a number behind its letter
unfoldable pub numbered_line : ℕ → List ℕ → List ℕ
numbered_line d [] = []
numbered_line d (c ∷ l) = c ∷ (field d ++ l)

-- the words of the destination's own event: the first has 256 times the destination's number besides
abbrev pub plain_words : List ℕ → List ℕ
plain_words ws = (at 0 ws % 256) ∷ drop 1 ws

-- the line of an event in its six words: `x` D sequence redelivery cause, `d` D ID sequence redelivery, `n` D ID; words of another kind have none, nor have those with a number above 7
unfoldable pub sent_words_line : List ℕ → List ℕ
sent_words_line ws = whether ltb (at 0 ws) 2048 then numbered_line (at 0 ws / 256) (words_line (plain_words ws)) else []

-- a row's line for each, one after another
unfoldable pub row_lines : (List ℕ → List ℕ) → List (List ℕ) → List ℕ
row_lines line [] = []
row_lines line (r ∷ rs) = line r ++ row_lines line rs

-- those of events
abbrev pub sent_rows_text : List Row → List ℕ
sent_rows_text ws = row_lines sent_words_line ws

-- `=` D enqueued dequeued expired discarded dispatched
abbrev pub counted_line : ℕ → Stats → List ℕ
counted_line d s = numbered_line d (counters_line s)

-- `s` next lost flag bytes
unfoldable pub station_line : ℕ → ℕ → ℕ → ℕ → List ℕ
station_line next lost flag bytes = 115 ∷ (field next ++ (field lost ++ (field flag ++ (field bytes ++ newline))))
