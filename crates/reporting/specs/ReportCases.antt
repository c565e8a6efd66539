-- What whole reports print, as one table that antt computes: no bytes, document 01's example, a bad block, a queue with every kind of line, a topic. Assumes nothing.
use Rattle.std.specs.Prelude.{ℕ, Bool, List, [], ◌∷◌, ◌++◌, T, replicate}
use Rattle.words.specs.Pick.{every, same_numbers}
use Rattle.definition.specs.Consumer.{consumer_open}
use Rattle.definition.specs.Destination.{destination_open}
use Rattle.definition.specs.Calls.{calls_open}
use Rattle.definition.specs.Words.{words_open}
use Rattle.definition.specs.Layout.{layout_open}
use Rattle.fates.specs.Blocks.{account_of, leaves_as, went_as, left_blocks}
use Rattle.callfile.specs.Blocks.{number_at, word_at, check_from, good, calls_in, call_at}
use Rattle.callfile.specs.Cases.{bytes, words, checked_block, calls, block}
use Rattle.callfile.specs.Cutting.{cut_at_most, cut_blocks, along_blocks}
use Rattle.callfile.specs.Lines.{digits, decimal, event_line, events_text, bad_line, counters_line}
use Rattle.reportlines.specs.ReportLines.{turn_line, join_line, enqueue_line, brought_line, place_name, block_line, blocks_text, one_gone, all_gone, totals_line}
use Rattle.running.specs.Running.{step_on, block_calls, each_call, each_of_block}
use Rattle.running.specs.Files.{work_block, zero_state}
use Rattle.reporting.specs.Reporting.{noted, noted_lines, report_call}
use Rattle.reporting.specs.ReportFiles.{zero_noting, tail_lines, report_file}

-- "t 0 0 0 0 0 0 0 0", "= 0 0 0 0 0"
none_told : List ℕ
none_told =
    116 ∷ 32 ∷ 48 ∷ 32 ∷ 48 ∷ 32 ∷ 48 ∷ 32 ∷ 48 ∷ 32 ∷ 48 ∷ 32 ∷ 48 ∷ 32 ∷ 48 ∷ 32 ∷ 48 ∷ 10
    ∷ 61 ∷ 32 ∷ 48 ∷ 32 ∷ 48 ∷ 32 ∷ 48 ∷ 32 ∷ 48 ∷ 32 ∷ 48 ∷ 10
    ∷ []

-- of the example: "c 0 0 0 0 0 0", "c 1 1 0 1 0 0", "e 5 1", "c 2 1 0 2 0 0", "e 3 1", "c 3 2 0 0 1 0", "j 9 1 1 0", "d 9 1 1 5 0", "f 3 expired 1"
begins : List ℕ
begins =
    99 ∷ 32 ∷ 48 ∷ 32 ∷ 48 ∷ 32 ∷ 48 ∷ 32 ∷ 48 ∷ 32 ∷ 48 ∷ 32 ∷ 48 ∷ 10
    ∷ 99 ∷ 32 ∷ 49 ∷ 32 ∷ 49 ∷ 32 ∷ 48 ∷ 32 ∷ 49 ∷ 32 ∷ 48 ∷ 32 ∷ 48 ∷ 10
    ∷ 101 ∷ 32 ∷ 53 ∷ 32 ∷ 49 ∷ 10
    ∷ 99 ∷ 32 ∷ 50 ∷ 32 ∷ 49 ∷ 32 ∷ 48 ∷ 32 ∷ 50 ∷ 32 ∷ 48 ∷ 32 ∷ 48 ∷ 10
    ∷ 101 ∷ 32 ∷ 51 ∷ 32 ∷ 49 ∷ 10
    ∷ 99 ∷ 32 ∷ 51 ∷ 32 ∷ 50 ∷ 32 ∷ 48 ∷ 32 ∷ 48 ∷ 32 ∷ 49 ∷ 32 ∷ 48 ∷ 10
    ∷ 106 ∷ 32 ∷ 57 ∷ 32 ∷ 49 ∷ 32 ∷ 49 ∷ 32 ∷ 48 ∷ 10
    ∷ 100 ∷ 32 ∷ 57 ∷ 32 ∷ 49 ∷ 32 ∷ 49 ∷ 32 ∷ 53 ∷ 32 ∷ 48 ∷ 10
    ∷ 102 ∷ 32 ∷ 51 ∷ 32 ∷ 101 ∷ 120 ∷ 112 ∷ 105 ∷ 114 ∷ 101 ∷ 100 ∷ 32 ∷ 49 ∷ 10
    ∷ []

-- "c 4 4 0 0 0 0", "f 5 dequeued 1"
acknowledges : List ℕ
acknowledges =
    99 ∷ 32 ∷ 52 ∷ 32 ∷ 52 ∷ 32 ∷ 48 ∷ 32 ∷ 48 ∷ 32 ∷ 48 ∷ 32 ∷ 48 ∷ 10
    ∷ 102 ∷ 32 ∷ 53 ∷ 32 ∷ 100 ∷ 101 ∷ 113 ∷ 117 ∷ 101 ∷ 117 ∷ 101 ∷ 100 ∷ 32 ∷ 49 ∷ 10
    ∷ []

-- "b 1"
bad : List ℕ
bad = 98 ∷ 32 ∷ 49 ∷ 10 ∷ []

-- "t 0 0 0 1 1 0 0 0", "= 2 1 1 0 1"
example-totals : List ℕ
example-totals =
    116 ∷ 32 ∷ 48 ∷ 32 ∷ 48 ∷ 32 ∷ 48 ∷ 32 ∷ 49 ∷ 32 ∷ 49 ∷ 32 ∷ 48 ∷ 32 ∷ 48 ∷ 32 ∷ 48 ∷ 10
    ∷ 61 ∷ 32 ∷ 50 ∷ 32 ∷ 49 ∷ 32 ∷ 49 ∷ 32 ∷ 48 ∷ 32 ∷ 49 ∷ 10
    ∷ []

-- seven calls: open, two enqueues, a join, a browser's join, a POISON acknowledgement, an enqueue that is not persistent
every-kind : List ℕ
unfolding words checked_block bytes
every-kind = checked_block 0 (words seven_calls ++ bytes 4 7)
  where
    seven_calls : List ℕ
    seven_calls =
        0 ∷ 0 ∷ 0 ∷ 100 ∷ 0 ∷ 0 ∷ 0 ∷ 0 ∷ 0
        ∷ 1 ∷ 5 ∷ 0 ∷ 1 ∷ 7 ∷ 0 ∷ 0 ∷ 10 ∷ 0
        ∷ 1 ∷ 3 ∷ 20 ∷ 1 ∷ 7 ∷ 0 ∷ 0 ∷ 10 ∷ 0
        ∷ 2 ∷ 9 ∷ 1 ∷ 1 ∷ 1 ∷ 64 ∷ 0 ∷ 30 ∷ 0
        ∷ 2 ∷ 8 ∷ 1 ∷ 1 ∷ 1 ∷ 64 ∷ 2 ∷ 30 ∷ 0
        ∷ 4 ∷ 9 ∷ 1 ∷ 1 ∷ 1537 ∷ 5 ∷ 5 ∷ 31 ∷ 0
        ∷ 1 ∷ 6 ∷ 0 ∷ 0 ∷ 7 ∷ 0 ∷ 0 ∷ 32 ∷ 0
        ∷ []

-- the rest of its lines: "c 4 2 0 0 1 0", "j 8 1 1 2", "n 8 1 1", "c 5 4 0 0 0 0", "x 5 0 0", "f 5 dead-lettered 1", "c 6 1 0 0 1 0", "e 6 0", "d 9 1 1 6 0", "f 6 in-flight 0", "t 0 1 0 0 1 0 1 0", "= 3 0 1 0 2"
kinds : List ℕ
kinds =
    99 ∷ 32 ∷ 52 ∷ 32 ∷ 50 ∷ 32 ∷ 48 ∷ 32 ∷ 48 ∷ 32 ∷ 49 ∷ 32 ∷ 48 ∷ 10
    ∷ 106 ∷ 32 ∷ 56 ∷ 32 ∷ 49 ∷ 32 ∷ 49 ∷ 32 ∷ 50 ∷ 10
    ∷ 110 ∷ 32 ∷ 56 ∷ 32 ∷ 49 ∷ 32 ∷ 49 ∷ 10
    ∷ 99 ∷ 32 ∷ 53 ∷ 32 ∷ 52 ∷ 32 ∷ 48 ∷ 32 ∷ 48 ∷ 32 ∷ 48 ∷ 32 ∷ 48 ∷ 10
    ∷ 120 ∷ 32 ∷ 53 ∷ 32 ∷ 48 ∷ 32 ∷ 48 ∷ 10
    ∷ 102 ∷ 32 ∷ 53 ∷ 32 ∷ 100 ∷ 101 ∷ 97 ∷ 100 ∷ 45 ∷ 108 ∷ 101 ∷ 116 ∷ 116 ∷ 101 ∷ 114 ∷ 101 ∷ 100 ∷ 32 ∷ 49 ∷ 10
    ∷ 99 ∷ 32 ∷ 54 ∷ 32 ∷ 49 ∷ 32 ∷ 48 ∷ 32 ∷ 48 ∷ 32 ∷ 49 ∷ 32 ∷ 48 ∷ 10
    ∷ 101 ∷ 32 ∷ 54 ∷ 32 ∷ 48 ∷ 10
    ∷ 100 ∷ 32 ∷ 57 ∷ 32 ∷ 49 ∷ 32 ∷ 49 ∷ 32 ∷ 54 ∷ 32 ∷ 48 ∷ 10
    ∷ 102 ∷ 32 ∷ 54 ∷ 32 ∷ 105 ∷ 110 ∷ 45 ∷ 102 ∷ 108 ∷ 105 ∷ 103 ∷ 104 ∷ 116 ∷ 32 ∷ 48 ∷ 10
    ∷ 116 ∷ 32 ∷ 48 ∷ 32 ∷ 49 ∷ 32 ∷ 48 ∷ 32 ∷ 48 ∷ 32 ∷ 49 ∷ 32 ∷ 48 ∷ 32 ∷ 49 ∷ 32 ∷ 48 ∷ 10
    ∷ 61 ∷ 32 ∷ 51 ∷ 32 ∷ 48 ∷ 32 ∷ 49 ∷ 32 ∷ 48 ∷ 32 ∷ 50 ∷ 10
    ∷ []

-- an enqueue before any open, then a topic: open, a join, an enqueue
on-topic : List ℕ
unfolding words checked_block bytes
on-topic = checked_block 0 (words four_calls ++ (replicate 216 0 ++ bytes 4 4))
  where
    four_calls : List ℕ
    four_calls =
        1 ∷ 5 ∷ 0 ∷ 1 ∷ 7 ∷ 0 ∷ 0 ∷ 10 ∷ 0
        ∷ 0 ∷ 1 ∷ 0 ∷ 100 ∷ 0 ∷ 0 ∷ 0 ∷ 0 ∷ 0
        ∷ 2 ∷ 9 ∷ 1 ∷ 1 ∷ 1 ∷ 64 ∷ 0 ∷ 30 ∷ 0
        ∷ 1 ∷ 5 ∷ 0 ∷ 1 ∷ 7 ∷ 0 ∷ 0 ∷ 31 ∷ 0
        ∷ []

-- "c 0 1 2 0 0 0", "c 1 0 0 0 0 0", "c 2 2 0 0 0 0", "j 9 1 1 0", "c 3 1 0 0 0 0", "d 9 1 1 5 0", "t 0 0 0 0 0 0 0 0", "= 1 0 0 0 1"
topic-lines : List ℕ
topic-lines =
    99 ∷ 32 ∷ 48 ∷ 32 ∷ 49 ∷ 32 ∷ 50 ∷ 32 ∷ 48 ∷ 32 ∷ 48 ∷ 32 ∷ 48 ∷ 10
    ∷ 99 ∷ 32 ∷ 49 ∷ 32 ∷ 48 ∷ 32 ∷ 48 ∷ 32 ∷ 48 ∷ 32 ∷ 48 ∷ 32 ∷ 48 ∷ 10
    ∷ 99 ∷ 32 ∷ 50 ∷ 32 ∷ 50 ∷ 32 ∷ 48 ∷ 32 ∷ 48 ∷ 32 ∷ 48 ∷ 32 ∷ 48 ∷ 10
    ∷ 106 ∷ 32 ∷ 57 ∷ 32 ∷ 49 ∷ 32 ∷ 49 ∷ 32 ∷ 48 ∷ 10
    ∷ 99 ∷ 32 ∷ 51 ∷ 32 ∷ 49 ∷ 32 ∷ 48 ∷ 32 ∷ 48 ∷ 32 ∷ 48 ∷ 32 ∷ 48 ∷ 10
    ∷ 100 ∷ 32 ∷ 57 ∷ 32 ∷ 49 ∷ 32 ∷ 49 ∷ 32 ∷ 53 ∷ 32 ∷ 48 ∷ 10
    ∷ 116 ∷ 32 ∷ 48 ∷ 32 ∷ 48 ∷ 32 ∷ 48 ∷ 32 ∷ 48 ∷ 32 ∷ 48 ∷ 32 ∷ 48 ∷ 32 ∷ 48 ∷ 32 ∷ 48 ∷ 10
    ∷ 61 ∷ 32 ∷ 49 ∷ 32 ∷ 48 ∷ 32 ∷ 48 ∷ 32 ∷ 48 ∷ 32 ∷ 49 ∷ 10
    ∷ []

cases : List Bool
unfolding consumer_open destination_open calls_open words_open layout_open account_of leaves_as went_as left_blocks number_at word_at check_from good calls_in call_at bytes words checked_block calls block cut_at_most cut_blocks along_blocks digits decimal event_line events_text bad_line counters_line turn_line join_line enqueue_line brought_line place_name block_line blocks_text one_gone all_gone totals_line step_on block_calls each_call each_of_block work_block zero_state noted noted_lines report_call zero_noting tail_lines report_file none_told begins acknowledges bad example-totals every-kind kinds on-topic topic-lines
cases =
    same_numbers (report_file []) none_told
    ∷ same_numbers (report_file (block 5 0)) (begins ++ (acknowledges ++ example-totals))
    ∷ same_numbers (report_file (block 5 0 ++ block 5 1)) (begins ++ (acknowledges ++ (bad ++ example-totals)))
    ∷ same_numbers (report_file every-kind) (begins ++ kinds)
    ∷ same_numbers (report_file on-topic) topic-lines
    ∷ []

all_right : T (every cases)
unfolding cases
all_right = tt
