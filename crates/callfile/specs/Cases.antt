-- Blocks and lines as one table that antt computes: document 01's example as its block and its output, bad blocks, and numbers. Assumes nothing.
use Rattle.std.specs.Prelude.{ℕ, zero, suc, ◌+◌, ◌-◌, ◌/◌, ◌%◌, ◌^◌, Bool, true, List, [], ◌∷◌, ◌++◌, eqb, T, length, take, replicate, pos, negsuc}
use Rattle.words.specs.Pick.{every, same_numbers}
use Rattle.model.specs.Model.{new_id}
use Rattle.definition.specs.Types.{letter, message, null}
use Rattle.calls.specs.declared.Call.{Call}
use Rattle.callfile.specs.Blocks.{number_at, word_at, check_from, good, calls_in, call_at}
use Rattle.callfile.specs.Lines.{digits, decimal, signed_decimal, call_line, event_line, bad_line, counters_line}

-- ---- blocks

-- a number in so many bytes
unfoldable pub bytes : ℕ → ℕ → List ℕ
bytes zero w = []
bytes (suc n) w = w % 256 ∷ bytes n (w / 256)

-- words of eight bytes
unfoldable pub words : List ℕ → List ℕ
words [] = []
words (w ∷ ws) = bytes 8 w ++ words ws

-- 508 bytes with their check, and a difference to it
unfoldable pub checked_block : ℕ → List ℕ → List ℕ
checked_block wrong body = body ++ bytes 4 (wrong + check_from 0 body)

-- five calls of nine words: open, two enqueues, join, ack
unfoldable pub calls : List ℕ
calls =
    0 ∷ 0 ∷ 0 ∷ 100 ∷ 0 ∷ 0 ∷ 0 ∷ 0 ∷ 0
    ∷ 1 ∷ 5 ∷ 0 ∷ 1 ∷ 7 ∷ 0 ∷ 0 ∷ 10 ∷ 0
    ∷ 1 ∷ 3 ∷ 20 ∷ 1 ∷ 7 ∷ 0 ∷ 0 ∷ 10 ∷ 0
    ∷ 2 ∷ 9 ∷ 1 ∷ 1 ∷ 1 ∷ 64 ∷ 0 ∷ 30 ∷ 0
    ∷ 4 ∷ 9 ∷ 1 ∷ 1 ∷ 1028 ∷ 0 ∷ 5 ∷ 31 ∷ 0
    ∷ []

-- a block of them, with a count and a difference to the check
unfoldable pub block : ℕ → ℕ → List ℕ
block count wrong = checked_block wrong (words calls ++ (replicate 144 0 ++ bytes 4 count))

-- code and words in a row
flat : Call → List ℕ
flat c = c.code ∷ c.words

-- ---- the example's lines

output : List ℕ
unfolding call_line event_line counters_line
output =
    call_line 0 0 0
    ++ (call_line 1 0 0
    ++ (call_line 2 0 0
    ++ (call_line 3 0 0
    ++ (event_line (message (new_id 9 (pos 1) (pos 1)) 5 (pos 0))
    ++ (call_line 4 0 0
    ++ counters_line (record { enqueued = 2; dequeued = 1; expired = 1; discarded = 0; dispatched = 1 }))))))

-- "0 0 0", "1 0 0", "2 0 0", "3 0 0", "d 9 1 1 5 0", "4 0 0", "= 2 1 1 0 1"
expected : List ℕ
expected =
    48 ∷ 32 ∷ 48 ∷ 32 ∷ 48 ∷ 10
    ∷ 49 ∷ 32 ∷ 48 ∷ 32 ∷ 48 ∷ 10
    ∷ 50 ∷ 32 ∷ 48 ∷ 32 ∷ 48 ∷ 10
    ∷ 51 ∷ 32 ∷ 48 ∷ 32 ∷ 48 ∷ 10
    ∷ 100 ∷ 32 ∷ 57 ∷ 32 ∷ 49 ∷ 32 ∷ 49 ∷ 32 ∷ 53 ∷ 32 ∷ 48 ∷ 10
    ∷ 52 ∷ 32 ∷ 48 ∷ 32 ∷ 48 ∷ 10
    ∷ 61 ∷ 32 ∷ 50 ∷ 32 ∷ 49 ∷ 32 ∷ 49 ∷ 32 ∷ 48 ∷ 32 ∷ 49 ∷ 10
    ∷ []

cases : List Bool
unfolding number_at word_at check_from good calls_in call_at digits decimal call_line event_line bad_line counters_line bytes words checked_block calls block flat output expected
cases =
    eqb (length (block 5 0)) 512
    ∷ eqb (calls_in (block 5 0) 512) 5
    ∷ same_numbers (flat (call_at 0 (block 5 0))) (0 ∷ 0 ∷ 0 ∷ 100 ∷ 0 ∷ 0 ∷ 0 ∷ 0 ∷ 0 ∷ [])
    ∷ same_numbers (flat (call_at 4 (block 5 0))) (4 ∷ 9 ∷ 1 ∷ 1 ∷ 1028 ∷ 0 ∷ 5 ∷ 31 ∷ 0 ∷ [])
    ∷ eqb (call_at 7 (block 5 0)).code (2 ^ 64 - 1)
    -- short, wrong check, count 0, 7 and 8
    ∷ eqb (calls_in (block 5 0) 511) 0
    ∷ eqb (calls_in (take 511 (block 5 0)) 512) 0
    ∷ eqb (calls_in (block 5 1) 512) 0
    ∷ eqb (calls_in (block 0 0) 512) 0
    ∷ eqb (calls_in (block 7 0) 512) 7
    ∷ eqb (calls_in (block 8 0) 512) 0
    -- numbers: 0, the last word, the least i64
    ∷ same_numbers (decimal 0) (48 ∷ [])
    ∷ same_numbers (decimal (2 ^ 64 - 1)) (49 ∷ 56 ∷ 52 ∷ 52 ∷ 54 ∷ 55 ∷ 52 ∷ 52 ∷ 48 ∷ 55 ∷ 51 ∷ 55 ∷ 48 ∷ 57 ∷ 53 ∷ 53 ∷ 49 ∷ 54 ∷ 49 ∷ 53 ∷ [])
    ∷ same_numbers (signed_decimal (negsuc (2 ^ 63 - 1))) (45 ∷ 57 ∷ 50 ∷ 50 ∷ 51 ∷ 51 ∷ 55 ∷ 50 ∷ 48 ∷ 51 ∷ 54 ∷ 56 ∷ 53 ∷ 52 ∷ 55 ∷ 55 ∷ 53 ∷ 56 ∷ 48 ∷ 56 ∷ [])
    -- x 30 -1 1, n 0 -2 3, b 10
    ∷ same_numbers (event_line (letter 30 (negsuc 0) true)) (120 ∷ 32 ∷ 51 ∷ 48 ∷ 32 ∷ 45 ∷ 49 ∷ 32 ∷ 49 ∷ 10 ∷ [])
    ∷ same_numbers (event_line (null (new_id 0 (negsuc 1) (pos 3)))) (110 ∷ 32 ∷ 48 ∷ 32 ∷ 45 ∷ 50 ∷ 32 ∷ 51 ∷ 10 ∷ [])
    ∷ same_numbers (bad_line 10) (98 ∷ 32 ∷ 49 ∷ 48 ∷ 10 ∷ [])
    ∷ same_numbers output expected
    ∷ []

all_right : T (every cases)
unfolding cases
all_right = tt
