-- Lines of text and their calls as one table that antt computes. Assumes nothing.
use Rattle.std.specs.Prelude.{Some, None, Ok, Err, ℕ, ◌+◌, ◌-◌, ◌*◌, ◌^◌, Bool, true, false, ◌&&◌, List, [], ◌∷◌, eqb, T}
use Rattle.words.specs.Pick.{every}
use Rattle.calls.specs.Calls.{new_call}
use Rattle.callfile.specs.Lines.{digits, decimal}
use Rattle.textwords.specs.Text.{run, pieces, full, words_of, plain, same_text}
use Rattle.textwords.specs.Numbers.{digits_after, unsigned_of, negated, number_of}
use Rattle.calltext.specs.declared.Fault.{Fault}
use Rattle.calltext.specs.declared.Fault.TheVariants.{UnknownCall, NotANumber, TooManyArguments, NotADestination, NoName}
use Rattle.calltext.specs.Names.{names, place_in, name_place, code_place, kinds}
use Rattle.calltext.specs.Lines.{Parsed, gather_call, small_number, destination_of, named_call, call_for, call_in, line_call}
use Rattle.calltext.specs.Faults.{fault_among, fault_named, fault_after, fault_in, fault_word}
use Rattle.calltext.specs.Shown.{shown_words, fields, code_field, shown_destination, destination_text, call_text}

-- a line that is a call, and one of nothing
is_call : Parsed → ℕ → List ℕ → Bool
is_call (Ok (Some c)) code words = eqb c.code code && same_text c.words words
is_call (Ok None) code words = false
is_call (Err f) code words = false

is_empty : Parsed → Bool
is_empty (Ok (Some c)) = false
is_empty (Ok None) = true
is_empty (Err f) = false

-- the faults, numbered
number : Fault → ℕ
number UnknownCall = 2
number NotANumber = 3
number TooManyArguments = 4
number NotADestination = 5
number NoName = 6

is_fault : Parsed → Fault → Bool
is_fault (Ok c) f = false
is_fault (Err g) f = eqb (number g) (number f)

cases : List Bool
unfolding digits decimal run pieces full words_of plain same_text digits_after unsigned_of negated number_of names place_in name_place code_place kinds gather_call small_number destination_of named_call call_for call_in line_call fault_among fault_named fault_after fault_in fault_word shown_words fields code_field shown_destination destination_text call_text is_call is_empty number is_fault
cases =
    -- open 0 0 100 0
    is_call (line_call (111 ∷ 112 ∷ 101 ∷ 110 ∷ 32 ∷ 48 ∷ 32 ∷ 48 ∷ 32 ∷ 49 ∷ 48 ∷ 48 ∷ 32 ∷ 48 ∷ [])) 0 (0 ∷ 0 ∷ 100 ∷ 0 ∷ 0 ∷ 0 ∷ 0 ∷ 0 ∷ [])
    -- open 0 0 100 0 7 9
    ∷ is_call (line_call (111 ∷ 112 ∷ 101 ∷ 110 ∷ 32 ∷ 48 ∷ 32 ∷ 48 ∷ 32 ∷ 49 ∷ 48 ∷ 48 ∷ 32 ∷ 48 ∷ 32 ∷ 55 ∷ 32 ∷ 57 ∷ [])) 0 (0 ∷ 0 ∷ 100 ∷ 0 ∷ 7 ∷ 9 ∷ 0 ∷ 0 ∷ [])
    -- ack 9 -1 1
    ∷ is_call (line_call (9 ∷ 97 ∷ 99 ∷ 107 ∷ 32 ∷ 57 ∷ 32 ∷ 45 ∷ 49 ∷ 32 ∷ 49 ∷ 13 ∷ [])) 4 (9 ∷ (2 ^ 64 - 1) ∷ 1 ∷ 0 ∷ 0 ∷ 0 ∷ 0 ∷ 0 ∷ [])
    -- clear#1
    ∷ is_call (line_call (99 ∷ 108 ∷ 101 ∷ 97 ∷ 114 ∷ 35 ∷ 49 ∷ [])) 10 (0 ∷ 0 ∷ 0 ∷ 0 ∷ 0 ∷ 0 ∷ 0 ∷ 0 ∷ [])
    -- release 9 1 1 52
    ∷ is_call (line_call (114 ∷ 101 ∷ 108 ∷ 101 ∷ 97 ∷ 115 ∷ 101 ∷ 32 ∷ 57 ∷ 32 ∷ 49 ∷ 32 ∷ 49 ∷ 32 ∷ 53 ∷ 50 ∷ [])) 15 (9 ∷ 1 ∷ 1 ∷ 52 ∷ 0 ∷ 0 ∷ 0 ∷ 0 ∷ [])
    -- raw 16 18446744073709551615
    ∷ is_call (line_call (114 ∷ 97 ∷ 119 ∷ 32 ∷ 49 ∷ 54 ∷ 32 ∷ 49 ∷ 56 ∷ 52 ∷ 52 ∷ 54 ∷ 55 ∷ 52 ∷ 52 ∷ 48 ∷ 55 ∷ 51 ∷ 55 ∷ 48 ∷ 57 ∷ 53 ∷ 53 ∷ 49 ∷ 54 ∷ 49 ∷ 53 ∷ [])) 16 ((2 ^ 64 - 1) ∷ 0 ∷ 0 ∷ 0 ∷ 0 ∷ 0 ∷ 0 ∷ 0 ∷ [])
    -- leave 1 -9223372036854775808
    ∷ is_call (line_call (108 ∷ 101 ∷ 97 ∷ 118 ∷ 101 ∷ 32 ∷ 49 ∷ 32 ∷ 45 ∷ 57 ∷ 50 ∷ 50 ∷ 51 ∷ 51 ∷ 55 ∷ 50 ∷ 48 ∷ 51 ∷ 54 ∷ 56 ∷ 53 ∷ 52 ∷ 55 ∷ 55 ∷ 53 ∷ 56 ∷ 48 ∷ 56 ∷ [])) 3 (1 ∷ (2 ^ 63) ∷ 0 ∷ 0 ∷ 0 ∷ 0 ∷ 0 ∷ 0 ∷ [])
    -- # clear
    ∷ is_empty (line_call (32 ∷ 32 ∷ 35 ∷ 32 ∷ 99 ∷ 108 ∷ 101 ∷ 97 ∷ 114 ∷ []))
    -- nothing
    ∷ is_empty (line_call ([]))
    -- opem
    ∷ is_fault (line_call (111 ∷ 112 ∷ 101 ∷ 109 ∷ [])) UnknownCall
    -- Open
    ∷ is_fault (line_call (79 ∷ 112 ∷ 101 ∷ 110 ∷ [])) UnknownCall
    -- leave -
    ∷ is_fault (line_call (108 ∷ 101 ∷ 97 ∷ 118 ∷ 101 ∷ 32 ∷ 45 ∷ [])) NotANumber
    -- leave +1
    ∷ is_fault (line_call (108 ∷ 101 ∷ 97 ∷ 118 ∷ 101 ∷ 32 ∷ 43 ∷ 49 ∷ [])) NotANumber
    -- leave 18446744073709551616
    ∷ is_fault (line_call (108 ∷ 101 ∷ 97 ∷ 118 ∷ 101 ∷ 32 ∷ 49 ∷ 56 ∷ 52 ∷ 52 ∷ 54 ∷ 55 ∷ 52 ∷ 52 ∷ 48 ∷ 55 ∷ 51 ∷ 55 ∷ 48 ∷ 57 ∷ 53 ∷ 53 ∷ 49 ∷ 54 ∷ 49 ∷ 54 ∷ [])) NotANumber
    -- leave -9223372036854775809
    ∷ is_fault (line_call (108 ∷ 101 ∷ 97 ∷ 118 ∷ 101 ∷ 32 ∷ 45 ∷ 57 ∷ 50 ∷ 50 ∷ 51 ∷ 51 ∷ 55 ∷ 50 ∷ 48 ∷ 51 ∷ 54 ∷ 56 ∷ 53 ∷ 52 ∷ 55 ∷ 55 ∷ 53 ∷ 56 ∷ 48 ∷ 57 ∷ [])) NotANumber
    -- clear 1 2 3 4 5 6 7 8
    ∷ is_call (line_call (99 ∷ 108 ∷ 101 ∷ 97 ∷ 114 ∷ 32 ∷ 49 ∷ 32 ∷ 50 ∷ 32 ∷ 51 ∷ 32 ∷ 52 ∷ 32 ∷ 53 ∷ 32 ∷ 54 ∷ 32 ∷ 55 ∷ 32 ∷ 56 ∷ [])) 10 (1 ∷ 2 ∷ 3 ∷ 4 ∷ 5 ∷ 6 ∷ 7 ∷ 8 ∷ [])
    -- clear 1 2 3 4 5 6 7 8 9
    ∷ is_fault (line_call (99 ∷ 108 ∷ 101 ∷ 97 ∷ 114 ∷ 32 ∷ 49 ∷ 32 ∷ 50 ∷ 32 ∷ 51 ∷ 32 ∷ 52 ∷ 32 ∷ 53 ∷ 32 ∷ 54 ∷ 32 ∷ 55 ∷ 32 ∷ 56 ∷ 32 ∷ 57 ∷ [])) TooManyArguments
    -- raw 1 2 3 4 5 6 7 8 9
    ∷ is_call (line_call (114 ∷ 97 ∷ 119 ∷ 32 ∷ 49 ∷ 32 ∷ 50 ∷ 32 ∷ 51 ∷ 32 ∷ 52 ∷ 32 ∷ 53 ∷ 32 ∷ 54 ∷ 32 ∷ 55 ∷ 32 ∷ 56 ∷ 32 ∷ 57 ∷ [])) 1 (2 ∷ 3 ∷ 4 ∷ 5 ∷ 6 ∷ 7 ∷ 8 ∷ 9 ∷ [])
    -- raw 1 2 3 4 5 6 7 8 9 10
    ∷ is_fault (line_call (114 ∷ 97 ∷ 119 ∷ 32 ∷ 49 ∷ 32 ∷ 50 ∷ 32 ∷ 51 ∷ 32 ∷ 52 ∷ 32 ∷ 53 ∷ 32 ∷ 54 ∷ 32 ∷ 55 ∷ 32 ∷ 56 ∷ 32 ∷ 57 ∷ 32 ∷ 49 ∷ 48 ∷ [])) TooManyArguments
    -- start 4096
    ∷ is_call (line_call (115 ∷ 116 ∷ 97 ∷ 114 ∷ 116 ∷ 32 ∷ 52 ∷ 48 ∷ 57 ∷ 54 ∷ [])) 16 (4096 ∷ 0 ∷ 0 ∷ 0 ∷ 0 ∷ 0 ∷ 0 ∷ 0 ∷ [])
    -- @3 enqueue 0 0 1 7 0 0 10
    ∷ is_call (line_call (64 ∷ 51 ∷ 32 ∷ 101 ∷ 110 ∷ 113 ∷ 117 ∷ 101 ∷ 117 ∷ 101 ∷ 32 ∷ 48 ∷ 32 ∷ 48 ∷ 32 ∷ 49 ∷ 32 ∷ 55 ∷ 32 ∷ 48 ∷ 32 ∷ 48 ∷ 32 ∷ 49 ∷ 48 ∷ [])) (1 + 3 * 256) (0 ∷ 0 ∷ 1 ∷ 7 ∷ 0 ∷ 0 ∷ 10 ∷ 0 ∷ [])
    --  @0 clear # remark
    ∷ is_call (line_call (32 ∷ 64 ∷ 48 ∷ 32 ∷ 99 ∷ 108 ∷ 101 ∷ 97 ∷ 114 ∷ 32 ∷ 35 ∷ 32 ∷ 114 ∷ 101 ∷ 109 ∷ 97 ∷ 114 ∷ 107 ∷ [])) 10 (0 ∷ 0 ∷ 0 ∷ 0 ∷ 0 ∷ 0 ∷ 0 ∷ 0 ∷ [])
    -- @007 start
    ∷ is_call (line_call (64 ∷ 48 ∷ 48 ∷ 55 ∷ 32 ∷ 115 ∷ 116 ∷ 97 ∷ 114 ∷ 116 ∷ [])) (16 + 7 * 256) (0 ∷ 0 ∷ 0 ∷ 0 ∷ 0 ∷ 0 ∷ 0 ∷ 0 ∷ [])
    -- @72057594037927935 open 0 0 100 0 0 0 8
    ∷ is_call (line_call (64 ∷ 55 ∷ 50 ∷ 48 ∷ 53 ∷ 55 ∷ 53 ∷ 57 ∷ 52 ∷ 48 ∷ 51 ∷ 55 ∷ 57 ∷ 50 ∷ 55 ∷ 57 ∷ 51 ∷ 53 ∷ 32 ∷ 111 ∷ 112 ∷ 101 ∷ 110 ∷ 32 ∷ 48 ∷ 32 ∷ 48 ∷ 32 ∷ 49 ∷ 48 ∷ 48 ∷ 32 ∷ 48 ∷ 32 ∷ 48 ∷ 32 ∷ 48 ∷ 32 ∷ 56 ∷ [])) (2 ^ 64 - 256) (0 ∷ 0 ∷ 100 ∷ 0 ∷ 0 ∷ 0 ∷ 8 ∷ 0 ∷ [])
    -- @72057594037927936 open
    ∷ is_fault (line_call (64 ∷ 55 ∷ 50 ∷ 48 ∷ 53 ∷ 55 ∷ 53 ∷ 57 ∷ 52 ∷ 48 ∷ 51 ∷ 55 ∷ 57 ∷ 50 ∷ 55 ∷ 57 ∷ 51 ∷ 54 ∷ 32 ∷ 111 ∷ 112 ∷ 101 ∷ 110 ∷ [])) NotADestination
    -- @ 3 open
    ∷ is_fault (line_call (64 ∷ 32 ∷ 51 ∷ 32 ∷ 111 ∷ 112 ∷ 101 ∷ 110 ∷ [])) NotADestination
    -- @
    ∷ is_fault (line_call (64 ∷ [])) NotADestination
    -- @x open
    ∷ is_fault (line_call (64 ∷ 120 ∷ 32 ∷ 111 ∷ 112 ∷ 101 ∷ 110 ∷ [])) NotADestination
    -- @-1 open
    ∷ is_fault (line_call (64 ∷ 45 ∷ 49 ∷ 32 ∷ 111 ∷ 112 ∷ 101 ∷ 110 ∷ [])) NotADestination
    -- @3
    ∷ is_fault (line_call (64 ∷ 51 ∷ [])) NoName
    -- @3 # open
    ∷ is_fault (line_call (64 ∷ 51 ∷ 32 ∷ 35 ∷ 32 ∷ 111 ∷ 112 ∷ 101 ∷ 110 ∷ [])) NoName
    -- @3 raw 1
    ∷ is_fault (line_call (64 ∷ 51 ∷ 32 ∷ 114 ∷ 97 ∷ 119 ∷ 32 ∷ 49 ∷ [])) NoName
    -- @3 opem
    ∷ is_fault (line_call (64 ∷ 51 ∷ 32 ∷ 111 ∷ 112 ∷ 101 ∷ 109 ∷ [])) UnknownCall
    -- @3 @4 open
    ∷ is_fault (line_call (64 ∷ 51 ∷ 32 ∷ 64 ∷ 52 ∷ 32 ∷ 111 ∷ 112 ∷ 101 ∷ 110 ∷ [])) UnknownCall
    -- open @3
    ∷ is_fault (line_call (111 ∷ 112 ∷ 101 ∷ 110 ∷ 32 ∷ 64 ∷ 51 ∷ [])) NotANumber
    -- @3open
    ∷ is_fault (line_call (64 ∷ 51 ∷ 111 ∷ 112 ∷ 101 ∷ 110 ∷ [])) NotADestination
    -- @3 clear 1 2 3 4 5 6 7 8 9
    ∷ is_fault (line_call (64 ∷ 51 ∷ 32 ∷ 99 ∷ 108 ∷ 101 ∷ 97 ∷ 114 ∷ 32 ∷ 49 ∷ 32 ∷ 50 ∷ 32 ∷ 51 ∷ 32 ∷ 52 ∷ 32 ∷ 53 ∷ 32 ∷ 54 ∷ 32 ∷ 55 ∷ 32 ∷ 56 ∷ 32 ∷ 57 ∷ [])) TooManyArguments
    -- open 0 0 100 0 7 9
    ∷ same_text (call_text (new_call 0 (0 ∷ 0 ∷ 100 ∷ 0 ∷ 7 ∷ 9 ∷ 0 ∷ 0 ∷ []))) (111 ∷ 112 ∷ 101 ∷ 110 ∷ 32 ∷ 48 ∷ 32 ∷ 48 ∷ 32 ∷ 49 ∷ 48 ∷ 48 ∷ 32 ∷ 48 ∷ 32 ∷ 55 ∷ 32 ∷ 57 ∷ 10 ∷ [])
    -- enqueue 5 0 1 7 0 0 10 0
    ∷ same_text (call_text (new_call 1 (5 ∷ 0 ∷ 1 ∷ 7 ∷ 0 ∷ 0 ∷ 10 ∷ 0 ∷ []))) (101 ∷ 110 ∷ 113 ∷ 117 ∷ 101 ∷ 117 ∷ 101 ∷ 32 ∷ 53 ∷ 32 ∷ 48 ∷ 32 ∷ 49 ∷ 32 ∷ 55 ∷ 32 ∷ 48 ∷ 32 ∷ 48 ∷ 32 ∷ 49 ∷ 48 ∷ 32 ∷ 48 ∷ 10 ∷ [])
    -- pull 9 -1 0 0 0
    ∷ same_text (call_text (new_call 5 (9 ∷ (2 ^ 64 - 1) ∷ 0 ∷ 0 ∷ 0 ∷ 0 ∷ 0 ∷ 0 ∷ []))) (112 ∷ 117 ∷ 108 ∷ 108 ∷ 32 ∷ 57 ∷ 32 ∷ 45 ∷ 49 ∷ 32 ∷ 48 ∷ 32 ∷ 48 ∷ 32 ∷ 48 ∷ 10 ∷ [])
    -- clear 0 1
    ∷ same_text (call_text (new_call 10 (0 ∷ 1 ∷ 0 ∷ 0 ∷ 0 ∷ 0 ∷ 0 ∷ 0 ∷ []))) (99 ∷ 108 ∷ 101 ∷ 97 ∷ 114 ∷ 32 ∷ 48 ∷ 32 ∷ 49 ∷ 10 ∷ [])
    -- unmark 9 1 1
    ∷ same_text (call_text (new_call 8 (9 ∷ 1 ∷ 1 ∷ 0 ∷ 0 ∷ 0 ∷ 0 ∷ 0 ∷ []))) (117 ∷ 110 ∷ 109 ∷ 97 ∷ 114 ∷ 107 ∷ 32 ∷ 57 ∷ 32 ∷ 49 ∷ 32 ∷ 49 ∷ 10 ∷ [])
    -- raw 17 0 18446744073709551615
    ∷ same_text (call_text (new_call 17 (0 ∷ (2 ^ 64 - 1) ∷ 0 ∷ 0 ∷ 0 ∷ 0 ∷ 0 ∷ 0 ∷ []))) (114 ∷ 97 ∷ 119 ∷ 32 ∷ 49 ∷ 55 ∷ 32 ∷ 48 ∷ 32 ∷ 49 ∷ 56 ∷ 52 ∷ 52 ∷ 54 ∷ 55 ∷ 52 ∷ 52 ∷ 48 ∷ 55 ∷ 51 ∷ 55 ∷ 48 ∷ 57 ∷ 53 ∷ 53 ∷ 49 ∷ 54 ∷ 49 ∷ 53 ∷ 10 ∷ [])
    -- start 0
    ∷ same_text (call_text (new_call 16 (0 ∷ 0 ∷ 0 ∷ 0 ∷ 0 ∷ 0 ∷ 0 ∷ 0 ∷ []))) (115 ∷ 116 ∷ 97 ∷ 114 ∷ 116 ∷ 32 ∷ 48 ∷ 10 ∷ [])
    -- start 4096 1
    ∷ same_text (call_text (new_call 16 (4096 ∷ 1 ∷ 0 ∷ 0 ∷ 0 ∷ 0 ∷ 0 ∷ 0 ∷ []))) (115 ∷ 116 ∷ 97 ∷ 114 ∷ 116 ∷ 32 ∷ 52 ∷ 48 ∷ 57 ∷ 54 ∷ 32 ∷ 49 ∷ 10 ∷ [])
    -- open 0 0 100 0 0 0 3
    ∷ same_text (call_text (new_call 0 (0 ∷ 0 ∷ 100 ∷ 0 ∷ 0 ∷ 0 ∷ 3 ∷ 0 ∷ []))) (111 ∷ 112 ∷ 101 ∷ 110 ∷ 32 ∷ 48 ∷ 32 ∷ 48 ∷ 32 ∷ 49 ∷ 48 ∷ 48 ∷ 32 ∷ 48 ∷ 32 ∷ 48 ∷ 32 ∷ 48 ∷ 32 ∷ 51 ∷ 10 ∷ [])
    -- @3 enqueue 0 0 1 7 0 0 10 0
    ∷ same_text (call_text (new_call (1 + 3 * 256) (0 ∷ 0 ∷ 1 ∷ 7 ∷ 0 ∷ 0 ∷ 10 ∷ 0 ∷ []))) (64 ∷ 51 ∷ 32 ∷ 101 ∷ 110 ∷ 113 ∷ 117 ∷ 101 ∷ 117 ∷ 101 ∷ 32 ∷ 48 ∷ 32 ∷ 48 ∷ 32 ∷ 49 ∷ 32 ∷ 55 ∷ 32 ∷ 48 ∷ 32 ∷ 48 ∷ 32 ∷ 49 ∷ 48 ∷ 32 ∷ 48 ∷ 10 ∷ [])
    -- @1 start 0
    ∷ same_text (call_text (new_call (16 + 256) (0 ∷ 0 ∷ 0 ∷ 0 ∷ 0 ∷ 0 ∷ 0 ∷ 0 ∷ []))) (64 ∷ 49 ∷ 32 ∷ 115 ∷ 116 ∷ 97 ∷ 114 ∷ 116 ∷ 32 ∷ 48 ∷ 10 ∷ [])
    -- @72057594037927935 open 0 0 0 0 0 0
    ∷ same_text (call_text (new_call (2 ^ 64 - 256) (0 ∷ 0 ∷ 0 ∷ 0 ∷ 0 ∷ 0 ∷ 0 ∷ 0 ∷ []))) (64 ∷ 55 ∷ 50 ∷ 48 ∷ 53 ∷ 55 ∷ 53 ∷ 57 ∷ 52 ∷ 48 ∷ 51 ∷ 55 ∷ 57 ∷ 50 ∷ 55 ∷ 57 ∷ 51 ∷ 53 ∷ 32 ∷ 111 ∷ 112 ∷ 101 ∷ 110 ∷ 32 ∷ 48 ∷ 32 ∷ 48 ∷ 32 ∷ 48 ∷ 32 ∷ 48 ∷ 32 ∷ 48 ∷ 32 ∷ 48 ∷ 10 ∷ [])
    -- raw 273
    ∷ same_text (call_text (new_call (17 + 256) (0 ∷ 0 ∷ 0 ∷ 0 ∷ 0 ∷ 0 ∷ 0 ∷ 0 ∷ []))) (114 ∷ 97 ∷ 119 ∷ 32 ∷ 50 ∷ 55 ∷ 51 ∷ 10 ∷ [])
    -- raw 18446744073709551615
    ∷ same_text (call_text (new_call (2 ^ 64 - 1) (0 ∷ 0 ∷ 0 ∷ 0 ∷ 0 ∷ 0 ∷ 0 ∷ 0 ∷ []))) (114 ∷ 97 ∷ 119 ∷ 32 ∷ 49 ∷ 56 ∷ 52 ∷ 52 ∷ 54 ∷ 55 ∷ 52 ∷ 52 ∷ 48 ∷ 55 ∷ 51 ∷ 55 ∷ 48 ∷ 57 ∷ 53 ∷ 53 ∷ 49 ∷ 54 ∷ 49 ∷ 53 ∷ 10 ∷ [])
    -- the word at fault of: opem 0
    ∷ same_text (fault_word (111 ∷ 112 ∷ 101 ∷ 109 ∷ 32 ∷ 48 ∷ [])) (111 ∷ 112 ∷ 101 ∷ 109 ∷ [])
    -- the word at fault of: enqueue 1 2 x y
    ∷ same_text (fault_word (101 ∷ 110 ∷ 113 ∷ 117 ∷ 101 ∷ 117 ∷ 101 ∷ 32 ∷ 49 ∷ 32 ∷ 50 ∷ 32 ∷ 120 ∷ 32 ∷ 121 ∷ [])) (120 ∷ [])
    -- the word at fault of: leave 1 --1 # +
    ∷ same_text (fault_word (108 ∷ 101 ∷ 97 ∷ 118 ∷ 101 ∷ 32 ∷ 49 ∷ 32 ∷ 45 ∷ 45 ∷ 49 ∷ 32 ∷ 35 ∷ 32 ∷ 43 ∷ [])) (45 ∷ 45 ∷ 49 ∷ [])
    -- the word at fault of: clear 1 2 3 4 5 6 7 8 9 10
    ∷ same_text (fault_word (99 ∷ 108 ∷ 101 ∷ 97 ∷ 114 ∷ 32 ∷ 49 ∷ 32 ∷ 50 ∷ 32 ∷ 51 ∷ 32 ∷ 52 ∷ 32 ∷ 53 ∷ 32 ∷ 54 ∷ 32 ∷ 55 ∷ 32 ∷ 56 ∷ 32 ∷ 57 ∷ 32 ∷ 49 ∷ 48 ∷ [])) (57 ∷ [])
    -- the word at fault of: raw 1 2 3 4 5 6 7 8 9 10
    ∷ same_text (fault_word (114 ∷ 97 ∷ 119 ∷ 32 ∷ 49 ∷ 32 ∷ 50 ∷ 32 ∷ 51 ∷ 32 ∷ 52 ∷ 32 ∷ 53 ∷ 32 ∷ 54 ∷ 32 ∷ 55 ∷ 32 ∷ 56 ∷ 32 ∷ 57 ∷ 32 ∷ 49 ∷ 48 ∷ [])) (49 ∷ 48 ∷ [])
    -- the word at fault of: clear 1
    ∷ same_text (fault_word (99 ∷ 108 ∷ 101 ∷ 97 ∷ 114 ∷ 32 ∷ 49 ∷ [])) ([])
    -- the word at fault of: # opem
    ∷ same_text (fault_word (35 ∷ 32 ∷ 111 ∷ 112 ∷ 101 ∷ 109 ∷ [])) ([])
    -- the word at fault of: @3
    ∷ same_text (fault_word (64 ∷ 51 ∷ [])) (64 ∷ 51 ∷ [])
    -- the word at fault of: @x opem
    ∷ same_text (fault_word (64 ∷ 120 ∷ 32 ∷ 111 ∷ 112 ∷ 101 ∷ 109 ∷ [])) (64 ∷ 120 ∷ [])
    -- the word at fault of: @3 raw x
    ∷ same_text (fault_word (64 ∷ 51 ∷ 32 ∷ 114 ∷ 97 ∷ 119 ∷ 32 ∷ 120 ∷ [])) (64 ∷ 51 ∷ [])
    -- the word at fault of: @3 opem
    ∷ same_text (fault_word (64 ∷ 51 ∷ 32 ∷ 111 ∷ 112 ∷ 101 ∷ 109 ∷ [])) (111 ∷ 112 ∷ 101 ∷ 109 ∷ [])
    -- the word at fault of: @3 @4 open
    ∷ same_text (fault_word (64 ∷ 51 ∷ 32 ∷ 64 ∷ 52 ∷ 32 ∷ 111 ∷ 112 ∷ 101 ∷ 110 ∷ [])) (64 ∷ 52 ∷ [])
    -- the word at fault of: @3 ack 1 x
    ∷ same_text (fault_word (64 ∷ 51 ∷ 32 ∷ 97 ∷ 99 ∷ 107 ∷ 32 ∷ 49 ∷ 32 ∷ 120 ∷ [])) (120 ∷ [])
    -- the word at fault of: @3 clear 1
    ∷ same_text (fault_word (64 ∷ 51 ∷ 32 ∷ 99 ∷ 108 ∷ 101 ∷ 97 ∷ 114 ∷ 32 ∷ 49 ∷ [])) ([])
    -- the word at fault of: @ 3 clear
    ∷ same_text (fault_word (64 ∷ 32 ∷ 51 ∷ 32 ∷ 99 ∷ 108 ∷ 101 ∷ 97 ∷ 114 ∷ [])) (64 ∷ [])
    ∷ []

all_right : T (every cases)
unfolding cases
all_right = tt
