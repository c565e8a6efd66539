-- What whole reports of a station's call file print, as one table that antt computes: no bytes, a bad block, and a file with every kind of line but `n`. Assumes nothing.
use Rattle.std.specs.Prelude.{ℕ, Bool, List, [], ◌∷◌, ◌++◌, T, replicate}
use Rattle.words.specs.Pick.{every, same_numbers}
use Rattle.definition.specs.Consumer.{consumer_open}
use Rattle.definition.specs.Destination.{destination_open}
use Rattle.definition.specs.Calls.{calls_open}
use Rattle.definition.specs.Words.{words_open}
use Rattle.definition.specs.Layout.{layout_open}
use Rattle.fates.specs.Blocks.{account_of, leaves_as, went_as}
use Rattle.definition_station.specs.Letters.{letters_open}
use Rattle.definition_station.specs.Station.{station_open}
use Rattle.definition_stationfates.specs.Told.{place_stored, letter_place, letter_places, told_at}
use Rattle.definition_stationblocks.specs.StationBlocks.{blocks_gone}
use Rattle.callfile.specs.Blocks.{number_at, word_at, check_from, good, calls_in, call_at}
use Rattle.callfile.specs.Cases.{bytes, words, checked_block}
use Rattle.callfile.specs.Cutting.{cut_at_most, cut_blocks, along_blocks}
use Rattle.callfile.specs.Lines.{digits, decimal, event_line, event_at, event_line_of, bad_line, counters_line}
use Rattle.reportlines.specs.ReportLines.{join_line, enqueue_line, brought_line, place_name, block_line, one_gone, all_gone, totals_line}
use Rattle.stationlines.specs.StationLines.{numbered_line, sent_words_line, row_lines, station_line}
use Rattle.stationreportlines.specs.StationReportLines.{station_turn_line, ways_line, told_line}
use Rattle.running.specs.Running.{block_calls, each_call, each_of_block}
use Rattle.running.specs.Files.{work_block}
use Rattle.stationrun.specs.StationRuns.{start_on, station_on, file_call}
use Rattle.stationrun.specs.StationFiles.{zero_station}
use Rattle.stationreport.specs.StationReporting.{places_text, each_place, place_held, told_in, slot_gone, left_at, station_noted, head_text, station_noted_lines, station_report_call}
use Rattle.stationreport.specs.StationReportFiles.{slot_tail, station_report_tail, zero_notes, station_report_file}

-- a start; opens of 0, whose dead letters go to 1, and of 1; an enqueue on 0 that expires at 25, a join at each, and a POISON acknowledgement at 30
rejects-one : List ℕ
unfolding words checked_block bytes
rejects-one = checked_block 0 (words seven_calls ++ bytes 4 7)
  where
    seven_calls : List ℕ
    seven_calls =
        16 ∷ 0 ∷ 0 ∷ 0 ∷ 0 ∷ 0 ∷ 0 ∷ 0 ∷ 0
        ∷ 0 ∷ 0 ∷ 0 ∷ 9 ∷ 0 ∷ 0 ∷ 0 ∷ 1 ∷ 0
        ∷ 256 ∷ 0 ∷ 0 ∷ 9 ∷ 0 ∷ 0 ∷ 0 ∷ 8 ∷ 0
        ∷ 1 ∷ 0 ∷ 25 ∷ 1 ∷ 7 ∷ 5 ∷ 4 ∷ 10 ∷ 6
        ∷ 2 ∷ 9 ∷ 1 ∷ 1 ∷ 5 ∷ 64 ∷ 0 ∷ 20 ∷ 0
        ∷ 258 ∷ 8 ∷ 1 ∷ 1 ∷ 5 ∷ 64 ∷ 0 ∷ 20 ∷ 0
        ∷ 4 ∷ 9 ∷ 1 ∷ 1 ∷ 1537 ∷ 1 ∷ 1 ∷ 30 ∷ 0
        ∷ []

-- an enqueue that carries a number, one on 1 that is not persistent, and an open of 0 anew
opens-anew : List ℕ
unfolding words checked_block bytes
opens-anew = checked_block 0 (words three_calls ++ (replicate 288 0 ++ bytes 4 3))
  where
    three_calls : List ℕ
    three_calls =
        1 ∷ 5 ∷ 0 ∷ 1 ∷ 7 ∷ 0 ∷ 0 ∷ 40 ∷ 6
        ∷ 257 ∷ 0 ∷ 0 ∷ 0 ∷ 7 ∷ 0 ∷ 0 ∷ 40 ∷ 6
        ∷ 0 ∷ 0 ∷ 0 ∷ 9 ∷ 0 ∷ 0 ∷ 0 ∷ 1 ∷ 0
        ∷ []

-- "c 0 0 16 0 0 0 0", "c 1 0 0 0 0 0 0", "c 2 1 0 0 0 0 0", "c 3 0 1 0 1 0 0", "e 0 1 1", "c 4 0 2 0 0 1 0", "j 0 9 1 1 0", "d 0 9 1 1 1 4", "c 5 1 2 0 0 0 0", "j 1 8 1 1 0"
until-rejected : List ℕ
until-rejected =
    99 ∷ 32 ∷ 48 ∷ 32 ∷ 48 ∷ 32 ∷ 49 ∷ 54 ∷ 32 ∷ 48 ∷ 32 ∷ 48 ∷ 32 ∷ 48 ∷ 32 ∷ 48 ∷ 10
    ∷ 99 ∷ 32 ∷ 49 ∷ 32 ∷ 48 ∷ 32 ∷ 48 ∷ 32 ∷ 48 ∷ 32 ∷ 48 ∷ 32 ∷ 48 ∷ 32 ∷ 48 ∷ 10
    ∷ 99 ∷ 32 ∷ 50 ∷ 32 ∷ 49 ∷ 32 ∷ 48 ∷ 32 ∷ 48 ∷ 32 ∷ 48 ∷ 32 ∷ 48 ∷ 32 ∷ 48 ∷ 10
    ∷ 99 ∷ 32 ∷ 51 ∷ 32 ∷ 48 ∷ 32 ∷ 49 ∷ 32 ∷ 48 ∷ 32 ∷ 49 ∷ 32 ∷ 48 ∷ 32 ∷ 48 ∷ 10
    ∷ 101 ∷ 32 ∷ 48 ∷ 32 ∷ 49 ∷ 32 ∷ 49 ∷ 10
    ∷ 99 ∷ 32 ∷ 52 ∷ 32 ∷ 48 ∷ 32 ∷ 50 ∷ 32 ∷ 48 ∷ 32 ∷ 48 ∷ 32 ∷ 49 ∷ 32 ∷ 48 ∷ 10
    ∷ 106 ∷ 32 ∷ 48 ∷ 32 ∷ 57 ∷ 32 ∷ 49 ∷ 32 ∷ 49 ∷ 32 ∷ 48 ∷ 10
    ∷ 100 ∷ 32 ∷ 48 ∷ 32 ∷ 57 ∷ 32 ∷ 49 ∷ 32 ∷ 49 ∷ 32 ∷ 49 ∷ 32 ∷ 52 ∷ 10
    ∷ 99 ∷ 32 ∷ 53 ∷ 32 ∷ 49 ∷ 32 ∷ 50 ∷ 32 ∷ 48 ∷ 32 ∷ 48 ∷ 32 ∷ 48 ∷ 32 ∷ 48 ∷ 10
    ∷ 106 ∷ 32 ∷ 49 ∷ 32 ∷ 56 ∷ 32 ∷ 49 ∷ 32 ∷ 49 ∷ 32 ∷ 48 ∷ 10
    ∷ []

-- the letter is stored at 1, and expires there in the very call: "c 6 0 4 0 0 0 0", "w 1 0 0 0", "x 0 1 4 0", "l 0 1 2 1", "f 0 1 dead-lettered 1", "f 1 2 expired 1"
rejected-lines : List ℕ
rejected-lines =
    99 ∷ 32 ∷ 54 ∷ 32 ∷ 48 ∷ 32 ∷ 52 ∷ 32 ∷ 48 ∷ 32 ∷ 48 ∷ 32 ∷ 48 ∷ 32 ∷ 48 ∷ 10
    ∷ 119 ∷ 32 ∷ 49 ∷ 32 ∷ 48 ∷ 32 ∷ 48 ∷ 32 ∷ 48 ∷ 10
    ∷ 120 ∷ 32 ∷ 48 ∷ 32 ∷ 49 ∷ 32 ∷ 52 ∷ 32 ∷ 48 ∷ 10
    ∷ 108 ∷ 32 ∷ 48 ∷ 32 ∷ 49 ∷ 32 ∷ 50 ∷ 32 ∷ 49 ∷ 10
    ∷ 102 ∷ 32 ∷ 48 ∷ 32 ∷ 49 ∷ 32 ∷ 100 ∷ 101 ∷ 97 ∷ 100 ∷ 45 ∷ 108 ∷ 101 ∷ 116 ∷ 116 ∷ 101 ∷ 114 ∷ 101 ∷ 100 ∷ 32 ∷ 49 ∷ 10
    ∷ 102 ∷ 32 ∷ 49 ∷ 32 ∷ 50 ∷ 32 ∷ 101 ∷ 120 ∷ 112 ∷ 105 ∷ 114 ∷ 101 ∷ 100 ∷ 32 ∷ 49 ∷ 10
    ∷ []

-- "c 7 0 1 3 0 0 0", "c 8 1 1 0 0 1 0", "e 1 3 0", "d 1 8 1 1 3 0", "c 9 0 0 0 0 0 0"
anew-lines : List ℕ
anew-lines =
    99 ∷ 32 ∷ 55 ∷ 32 ∷ 48 ∷ 32 ∷ 49 ∷ 32 ∷ 51 ∷ 32 ∷ 48 ∷ 32 ∷ 48 ∷ 32 ∷ 48 ∷ 10
    ∷ 99 ∷ 32 ∷ 56 ∷ 32 ∷ 49 ∷ 32 ∷ 49 ∷ 32 ∷ 48 ∷ 32 ∷ 48 ∷ 32 ∷ 49 ∷ 32 ∷ 48 ∷ 10
    ∷ 101 ∷ 32 ∷ 49 ∷ 32 ∷ 51 ∷ 32 ∷ 48 ∷ 10
    ∷ 100 ∷ 32 ∷ 49 ∷ 32 ∷ 56 ∷ 32 ∷ 49 ∷ 32 ∷ 49 ∷ 32 ∷ 51 ∷ 32 ∷ 48 ∷ 10
    ∷ 99 ∷ 32 ∷ 57 ∷ 32 ∷ 48 ∷ 32 ∷ 48 ∷ 32 ∷ 48 ∷ 32 ∷ 48 ∷ 32 ∷ 48 ∷ 32 ∷ 48 ∷ 10
    ∷ []

-- "b 2", "t 0 0 0 0 0 0 0 0 0", "= 0 0 0 0 0 0", "f 1 3 in-flight 0", "t 1 0 1 0 0 1 0 0 0", "= 1 2 0 1 0 1", "s 4 0 0 6"
last-told : List ℕ
last-told =
    98 ∷ 32 ∷ 50 ∷ 10
    ∷ 116 ∷ 32 ∷ 48 ∷ 32 ∷ 48 ∷ 32 ∷ 48 ∷ 32 ∷ 48 ∷ 32 ∷ 48 ∷ 32 ∷ 48 ∷ 32 ∷ 48 ∷ 32 ∷ 48 ∷ 32 ∷ 48 ∷ 10
    ∷ 61 ∷ 32 ∷ 48 ∷ 32 ∷ 48 ∷ 32 ∷ 48 ∷ 32 ∷ 48 ∷ 32 ∷ 48 ∷ 32 ∷ 48 ∷ 10
    ∷ 102 ∷ 32 ∷ 49 ∷ 32 ∷ 51 ∷ 32 ∷ 105 ∷ 110 ∷ 45 ∷ 102 ∷ 108 ∷ 105 ∷ 103 ∷ 104 ∷ 116 ∷ 32 ∷ 48 ∷ 10
    ∷ 116 ∷ 32 ∷ 49 ∷ 32 ∷ 48 ∷ 32 ∷ 49 ∷ 32 ∷ 48 ∷ 32 ∷ 48 ∷ 32 ∷ 49 ∷ 32 ∷ 48 ∷ 32 ∷ 48 ∷ 32 ∷ 48 ∷ 10
    ∷ 61 ∷ 32 ∷ 49 ∷ 32 ∷ 50 ∷ 32 ∷ 48 ∷ 32 ∷ 49 ∷ 32 ∷ 48 ∷ 32 ∷ 49 ∷ 10
    ∷ 115 ∷ 32 ∷ 52 ∷ 32 ∷ 48 ∷ 32 ∷ 48 ∷ 32 ∷ 54 ∷ 10
    ∷ []

-- "s 0 0 0 0"
nothing-told : List ℕ
nothing-told = 115 ∷ 32 ∷ 48 ∷ 32 ∷ 48 ∷ 32 ∷ 48 ∷ 32 ∷ 48 ∷ 10 ∷ []

cases : List Bool
unfolding consumer_open destination_open calls_open words_open layout_open account_of leaves_as went_as letters_open station_open place_stored letter_place letter_places told_at blocks_gone number_at word_at check_from good calls_in call_at bytes words checked_block cut_at_most cut_blocks along_blocks digits decimal event_line event_at event_line_of bad_line counters_line join_line enqueue_line brought_line place_name block_line one_gone all_gone totals_line numbered_line sent_words_line station_line station_turn_line ways_line row_lines told_line block_calls each_call each_of_block work_block start_on station_on file_call zero_station places_text each_place place_held told_in slot_gone left_at station_noted head_text station_noted_lines station_report_call slot_tail station_report_tail zero_notes station_report_file rejects-one opens-anew until-rejected rejected-lines anew-lines last-told nothing-told
cases =
    same_numbers (station_report_file []) nothing-told
    -- "b 0", and the last line
    ∷ same_numbers (station_report_file (1 ∷ [])) (98 ∷ 32 ∷ 48 ∷ 10 ∷ nothing-told)
    -- two blocks, and a byte more
    ∷ same_numbers (station_report_file (rejects-one ++ (opens-anew ++ 1 ∷ []))) (until-rejected ++ (rejected-lines ++ (anew-lines ++ last-told)))
    ∷ []

all_right : T (every cases)
unfolding cases
all_right = tt
