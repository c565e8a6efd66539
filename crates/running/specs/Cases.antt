-- What whole runs print, as one table that antt computes: document 01's example, files that are cut short, bad blocks, and calls before any open.
-- Assumes nothing.
use Rattle.std.specs.Prelude.{ℕ, ◌+◌, Bool, List, [], ◌∷◌, ◌++◌, T, take, replicate}
use Rattle.words.specs.Pick.{every, same_numbers}
use Rattle.definition.specs.Consumer.{consumer_open}
use Rattle.definition.specs.Destination.{destination_open}
use Rattle.definition.specs.Calls.{calls_open}
use Rattle.definition.specs.Words.{words_open}
use Rattle.definition.specs.Layout.{layout_open}
use Rattle.callfile.specs.Blocks.{number_at, word_at, check_from, good, calls_in, call_at}
use Rattle.callfile.specs.Cases.{bytes, words, checked_block, calls, block}
use Rattle.callfile.specs.Cutting.{cut_at_most, cut_blocks, along_blocks}
use Rattle.callfile.specs.Lines.{digits, decimal, call_line, event_line, events_text, bad_line, counters_line}
use Rattle.running.specs.Running.{call_lines, step_on, block_calls, each_call, each_of_block, run_call}
use Rattle.running.specs.Files.{work_block, zero_state, run_file}

-- "0 0 0", "1 0 0", "2 0 0", "3 0 0", "d 9 1 1 5 0", "4 0 0"
expected : List ℕ
expected =
    48 ∷ 32 ∷ 48 ∷ 32 ∷ 48 ∷ 10
    ∷ 49 ∷ 32 ∷ 48 ∷ 32 ∷ 48 ∷ 10
    ∷ 50 ∷ 32 ∷ 48 ∷ 32 ∷ 48 ∷ 10
    ∷ 51 ∷ 32 ∷ 48 ∷ 32 ∷ 48 ∷ 10
    ∷ 100 ∷ 32 ∷ 57 ∷ 32 ∷ 49 ∷ 32 ∷ 49 ∷ 32 ∷ 53 ∷ 32 ∷ 48 ∷ 10
    ∷ 52 ∷ 32 ∷ 48 ∷ 32 ∷ 48 ∷ 10
    ∷ []

-- "= 2 1 1 0 1"
counted : List ℕ
counted = 61 ∷ 32 ∷ 50 ∷ 32 ∷ 49 ∷ 32 ∷ 49 ∷ 32 ∷ 48 ∷ 32 ∷ 49 ∷ 10 ∷ []

-- "b 0" and "b 1"
bad : ℕ → List ℕ
bad k = 98 ∷ 32 ∷ (48 + k) ∷ 10 ∷ []

-- "= 0 0 0 0 0"
none-counted : List ℕ
none-counted = 61 ∷ 32 ∷ 48 ∷ 32 ∷ 48 ∷ 32 ∷ 48 ∷ 32 ∷ 48 ∷ 32 ∷ 48 ∷ 10 ∷ []

-- a block of one enqueue
enqueues : List ℕ
enqueues = checked_block 0 (words (1 ∷ 5 ∷ 0 ∷ 1 ∷ 7 ∷ 0 ∷ 0 ∷ 10 ∷ 0 ∷ []) ++ (replicate 432 0 ++ bytes 4 1))

goes_on : List ℕ
goes_on =
    53 ∷ 32 ∷ 48 ∷ 32 ∷ 48 ∷ 10
    ∷ 100 ∷ 32 ∷ 57 ∷ 32 ∷ 49 ∷ 32 ∷ 49 ∷ 32 ∷ 53 ∷ 32 ∷ 48 ∷ 10
    ∷ 61 ∷ 32 ∷ 51 ∷ 32 ∷ 49 ∷ 32 ∷ 49 ∷ 32 ∷ 48 ∷ 32 ∷ 50 ∷ 10
    ∷ []

cases : List Bool
unfolding consumer_open destination_open calls_open words_open layout_open number_at word_at check_from good calls_in call_at digits decimal call_line event_line bad_line counters_line events_text call_lines step_on block_calls each_call each_of_block run_call bytes words checked_block calls block work_block zero_state run_file cut_at_most cut_blocks along_blocks expected counted bad none-counted enqueues goes_on
cases =
    -- no bytes; document 01's example; and one byte more
    same_numbers (run_file []) none-counted
    ∷ same_numbers (run_file (block 5 0)) (expected ++ counted)
    ∷ same_numbers (run_file (block 5 0 ++ 1 ∷ [])) (expected ++ (bad 1 ++ counted))
    -- a byte less, a bad second block, and a third that is not read
    ∷ same_numbers (run_file (take 511 (block 5 0))) (bad 0 ++ none-counted)
    ∷ same_numbers (run_file (block 5 0 ++ (block 5 1 ++ block 5 0))) (expected ++ (bad 1 ++ counted))
    -- a second block goes on with the index and the state: "5 0 0", "d 9 1 1 5 0", "= 3 1 1 0 2"
    ∷ same_numbers (run_file (block 5 0 ++ enqueues)) (expected ++ goes_on)
    -- no open at all: "0 2 0"
    ∷ same_numbers (run_file enqueues) (48 ∷ 32 ∷ 50 ∷ 32 ∷ 48 ∷ 10 ∷ none-counted)
    ∷ []

all_right : T (every cases)
unfolding cases
all_right = tt
