-- What whole runs of a station's call file print, as one table that antt computes: a dead letter that arrives, files that are cut short, a call before any
-- start, and starts that are refused. Assumes nothing.
use Rattle.std.specs.Prelude.{ℕ, ◌+◌, Bool, List, [], ◌∷◌, ◌++◌, T, take, replicate}
use Rattle.words.specs.Pick.{every, same_numbers}
use Rattle.definition.specs.Consumer.{consumer_open}
use Rattle.definition.specs.Destination.{destination_open}
use Rattle.definition.specs.Calls.{calls_open}
use Rattle.definition.specs.Words.{words_open}
use Rattle.definition.specs.Layout.{layout_open}
use Rattle.definition_station.specs.Letters.{letters_open}
use Rattle.definition_station.specs.Station.{station_open}
use Rattle.callfile.specs.Blocks.{number_at, word_at, check_from, good, calls_in, call_at}
use Rattle.callfile.specs.Cases.{bytes, words, checked_block}
use Rattle.callfile.specs.Cutting.{cut_at_most, cut_blocks, along_blocks}
use Rattle.callfile.specs.Lines.{digits, decimal, call_line, event_line, event_at, event_line_of, bad_line, counters_line}
use Rattle.stationlines.specs.StationLines.{numbered_line, sent_words_line, row_lines, station_line}
use Rattle.running.specs.Running.{block_calls, each_call, each_of_block}
use Rattle.running.specs.Files.{work_block}
use Rattle.stationrun.specs.StationRuns.{start_on, station_on, file_call, station_lines, station_call}
use Rattle.stationrun.specs.StationFiles.{counted_lines, station_tail, zero_station, station_file}

-- a start; opens of 0, whose dead letters go to 1, and of 1; an enqueue of size 6 on 0, a join and a POISON acknowledgement
rejecting : List ℕ
rejecting = checked_block 0 (words
    (16 ∷ 0 ∷ 0 ∷ 0 ∷ 0 ∷ 0 ∷ 0 ∷ 0 ∷ 0
    ∷ 0 ∷ 0 ∷ 0 ∷ 9 ∷ 0 ∷ 0 ∷ 0 ∷ 1 ∷ 0
    ∷ 256 ∷ 0 ∷ 0 ∷ 9 ∷ 0 ∷ 0 ∷ 0 ∷ 8 ∷ 0
    ∷ 1 ∷ 0 ∷ 900 ∷ 1 ∷ 7 ∷ 5 ∷ 4 ∷ 10 ∷ 6
    ∷ 2 ∷ 9 ∷ 1 ∷ 1 ∷ 5 ∷ 64 ∷ 0 ∷ 20 ∷ 0
    ∷ 4 ∷ 9 ∷ 1 ∷ 1 ∷ 1537 ∷ 1 ∷ 1 ∷ 30 ∷ 0
    ∷ []) ++ (replicate 72 0 ++ bytes 4 6))

-- "0 0 0", "1 0 0", "2 0 0", "3 0 0", "4 0 0", "d 0 9 1 1 1 4", "5 0 0", "x 0 1 4 0"
rejected-text : List ℕ
rejected-text =
    48 ∷ 32 ∷ 48 ∷ 32 ∷ 48 ∷ 10
    ∷ 49 ∷ 32 ∷ 48 ∷ 32 ∷ 48 ∷ 10
    ∷ 50 ∷ 32 ∷ 48 ∷ 32 ∷ 48 ∷ 10
    ∷ 51 ∷ 32 ∷ 48 ∷ 32 ∷ 48 ∷ 10
    ∷ 52 ∷ 32 ∷ 48 ∷ 32 ∷ 48 ∷ 10
    ∷ 100 ∷ 32 ∷ 48 ∷ 32 ∷ 57 ∷ 32 ∷ 49 ∷ 32 ∷ 49 ∷ 32 ∷ 49 ∷ 32 ∷ 52 ∷ 10
    ∷ 53 ∷ 32 ∷ 48 ∷ 32 ∷ 48 ∷ 10
    ∷ 120 ∷ 32 ∷ 48 ∷ 32 ∷ 49 ∷ 32 ∷ 52 ∷ 32 ∷ 48 ∷ 10
    ∷ []

-- "= 0 1 0 0 0 1", "= 1 1 0 0 0 0", "s 3 0 0 6": the letter has arrived
arrived : List ℕ
arrived =
    61 ∷ 32 ∷ 48 ∷ 32 ∷ 49 ∷ 32 ∷ 48 ∷ 32 ∷ 48 ∷ 32 ∷ 48 ∷ 32 ∷ 49 ∷ 10
    ∷ 61 ∷ 32 ∷ 49 ∷ 32 ∷ 49 ∷ 32 ∷ 48 ∷ 32 ∷ 48 ∷ 32 ∷ 48 ∷ 32 ∷ 48 ∷ 10
    ∷ 115 ∷ 32 ∷ 51 ∷ 32 ∷ 48 ∷ 32 ∷ 48 ∷ 32 ∷ 54 ∷ 10
    ∷ []

-- "b 0" and "b 1"
bad-block : ℕ → List ℕ
bad-block k = 98 ∷ 32 ∷ (48 + k) ∷ 10 ∷ []

-- "s 0 0 0 0"
nothing_yet : List ℕ
nothing_yet = 115 ∷ 32 ∷ 48 ∷ 32 ∷ 48 ∷ 32 ∷ 48 ∷ 32 ∷ 48 ∷ 10 ∷ []

-- a block of one call, of the code and number in word 0, with its first argument
lone : ℕ → ℕ → List ℕ
lone first argument = checked_block 0 (words (first ∷ argument ∷ []) ++ (replicate 488 0 ++ bytes 4 1))

-- "0 R 0" for a refusal below 10, and "0 10 0"
refusing : ℕ → List ℕ
refusing r = 48 ∷ 32 ∷ (48 + r) ∷ 32 ∷ 48 ∷ 10 ∷ []

refusing-ten : List ℕ
refusing-ten = 48 ∷ 32 ∷ 49 ∷ 48 ∷ 32 ∷ 48 ∷ 10 ∷ []

cases : List Bool
unfolding consumer_open destination_open calls_open words_open layout_open letters_open station_open number_at word_at check_from good calls_in call_at digits decimal call_line event_line event_at event_line_of bad_line counters_line numbered_line sent_words_line row_lines station_line bytes words checked_block block_calls each_call each_of_block work_block start_on station_on file_call station_lines station_call counted_lines station_tail zero_station station_file cut_at_most cut_blocks along_blocks rejecting rejected-text arrived bad-block nothing_yet lone refusing refusing-ten
cases =
    -- no bytes; and a dead letter that arrives
    same_numbers (station_file []) nothing_yet
    ∷ same_numbers (station_file rejecting) (rejected-text ++ arrived)
    -- a byte more, and a byte less
    ∷ same_numbers (station_file (rejecting ++ 1 ∷ [])) (rejected-text ++ (bad-block 1 ++ arrived))
    ∷ same_numbers (station_file (take 511 rejecting)) (bad-block 0 ++ nothing_yet)
    -- no start and no open: 10, as none is open
    ∷ same_numbers (station_file (lone 1 0)) (refusing-ten ++ nothing_yet)
    -- a start with a limit, with the number 1, and with the number 8
    ∷ same_numbers (station_file (lone 16 1)) (refusing 3 ++ nothing_yet)
    ∷ same_numbers (station_file (lone 272 0)) (refusing 3 ++ nothing_yet)
    ∷ same_numbers (station_file (lone 2064 0)) (refusing-ten ++ nothing_yet)
    ∷ []

all_right : T (every cases)
unfolding cases
all_right = tt
