-- What is said of a text's bad lines as one table that antt computes; a bar stands for the end of a line. Assumes nothing.
use Rattle.std.specs.Prelude.{Bool, List, [], ◌∷◌, T}
use Rattle.words.specs.Pick.{every}
use Rattle.callfile.specs.Lines.{digits, decimal}
use Rattle.textwords.specs.Text.{run, pieces, full, words_of, plain, same_text, has_mark}
use Rattle.textwords.specs.Numbers.{digits_after, unsigned_of, negated, number_of}
use Rattle.calltext.specs.Names.{names, place_in, name_place}
use Rattle.calltext.specs.Lines.{gather_call, small_number, destination_of, named_call, call_for, call_in, line_call}
use Rattle.calltext.specs.Faults.{fault_among, fault_named, fault_after, fault_in, fault_word}
use Rattle.texting.specs.Lines.{lines_of, complaint, shown_word, wrong_with, message, messages}
use Rattle.texting.specs.Whole.{messages_of, bad_text, file_of}

cases : List Bool
unfolding digits decimal run pieces full words_of plain same_text has_mark digits_after unsigned_of negated number_of names place_in name_place gather_call small_number destination_of named_call call_for call_in line_call fault_among fault_named fault_after fault_in fault_word lines_of complaint shown_word wrong_with message messages messages_of file_of
cases =
    -- opem 0
    -- says line 1: unknown call: opem
    same_text (messages_of (111 ∷ 112 ∷ 101 ∷ 109 ∷ 32 ∷ 48 ∷ [])) (108 ∷ 105 ∷ 110 ∷ 101 ∷ 32 ∷ 49 ∷ 58 ∷ 32 ∷ 117 ∷ 110 ∷ 107 ∷ 110 ∷ 111 ∷ 119 ∷ 110 ∷ 32 ∷ 99 ∷ 97 ∷ 108 ∷ 108 ∷ 58 ∷ 32 ∷ 111 ∷ 112 ∷ 101 ∷ 109 ∷ 10 ∷ [])
    -- clear | leave 1 x
    -- says line 2: not a number of 64 bits: x
    ∷ same_text (messages_of (99 ∷ 108 ∷ 101 ∷ 97 ∷ 114 ∷ 10 ∷ 108 ∷ 101 ∷ 97 ∷ 118 ∷ 101 ∷ 32 ∷ 49 ∷ 32 ∷ 120 ∷ [])) (108 ∷ 105 ∷ 110 ∷ 101 ∷ 32 ∷ 50 ∷ 58 ∷ 32 ∷ 110 ∷ 111 ∷ 116 ∷ 32 ∷ 97 ∷ 32 ∷ 110 ∷ 117 ∷ 109 ∷ 98 ∷ 101 ∷ 114 ∷ 32 ∷ 111 ∷ 102 ∷ 32 ∷ 54 ∷ 52 ∷ 32 ∷ 98 ∷ 105 ∷ 116 ∷ 115 ∷ 58 ∷ 32 ∷ 120 ∷ 10 ∷ [])
    -- clear 1 2 3 4 5 6 7 8 9
    -- says line 1: more than eight arguments: 9
    ∷ same_text (messages_of (99 ∷ 108 ∷ 101 ∷ 97 ∷ 114 ∷ 32 ∷ 49 ∷ 32 ∷ 50 ∷ 32 ∷ 51 ∷ 32 ∷ 52 ∷ 32 ∷ 53 ∷ 32 ∷ 54 ∷ 32 ∷ 55 ∷ 32 ∷ 56 ∷ 32 ∷ 57 ∷ [])) (108 ∷ 105 ∷ 110 ∷ 101 ∷ 32 ∷ 49 ∷ 58 ∷ 32 ∷ 109 ∷ 111 ∷ 114 ∷ 101 ∷ 32 ∷ 116 ∷ 104 ∷ 97 ∷ 110 ∷ 32 ∷ 101 ∷ 105 ∷ 103 ∷ 104 ∷ 116 ∷ 32 ∷ 97 ∷ 114 ∷ 103 ∷ 117 ∷ 109 ∷ 101 ∷ 110 ∷ 116 ∷ 115 ∷ 58 ∷ 32 ∷ 57 ∷ 10 ∷ [])
    -- start | @1 open | @8 opem | @x open
    -- says line 3: unknown call: opem | line 4: not a destination's number: @x
    ∷ same_text (messages_of (115 ∷ 116 ∷ 97 ∷ 114 ∷ 116 ∷ 10 ∷ 64 ∷ 49 ∷ 32 ∷ 111 ∷ 112 ∷ 101 ∷ 110 ∷ 10 ∷ 64 ∷ 56 ∷ 32 ∷ 111 ∷ 112 ∷ 101 ∷ 109 ∷ 10 ∷ 64 ∷ 120 ∷ 32 ∷ 111 ∷ 112 ∷ 101 ∷ 110 ∷ [])) (108 ∷ 105 ∷ 110 ∷ 101 ∷ 32 ∷ 51 ∷ 58 ∷ 32 ∷ 117 ∷ 110 ∷ 107 ∷ 110 ∷ 111 ∷ 119 ∷ 110 ∷ 32 ∷ 99 ∷ 97 ∷ 108 ∷ 108 ∷ 58 ∷ 32 ∷ 111 ∷ 112 ∷ 101 ∷ 109 ∷ 10 ∷ 108 ∷ 105 ∷ 110 ∷ 101 ∷ 32 ∷ 52 ∷ 58 ∷ 32 ∷ 110 ∷ 111 ∷ 116 ∷ 32 ∷ 97 ∷ 32 ∷ 100 ∷ 101 ∷ 115 ∷ 116 ∷ 105 ∷ 110 ∷ 97 ∷ 116 ∷ 105 ∷ 111 ∷ 110 ∷ 39 ∷ 115 ∷ 32 ∷ 110 ∷ 117 ∷ 109 ∷ 98 ∷ 101 ∷ 114 ∷ 58 ∷ 32 ∷ 64 ∷ 120 ∷ 10 ∷ [])
    -- @3 | @3 raw 1
    -- says line 1: no call's name after: @3 | line 2: no call's name after: @3
    ∷ same_text (messages_of (64 ∷ 51 ∷ 10 ∷ 64 ∷ 51 ∷ 32 ∷ 114 ∷ 97 ∷ 119 ∷ 32 ∷ 49 ∷ [])) (108 ∷ 105 ∷ 110 ∷ 101 ∷ 32 ∷ 49 ∷ 58 ∷ 32 ∷ 110 ∷ 111 ∷ 32 ∷ 99 ∷ 97 ∷ 108 ∷ 108 ∷ 39 ∷ 115 ∷ 32 ∷ 110 ∷ 97 ∷ 109 ∷ 101 ∷ 32 ∷ 97 ∷ 102 ∷ 116 ∷ 101 ∷ 114 ∷ 58 ∷ 32 ∷ 64 ∷ 51 ∷ 10 ∷ 108 ∷ 105 ∷ 110 ∷ 101 ∷ 32 ∷ 50 ∷ 58 ∷ 32 ∷ 110 ∷ 111 ∷ 32 ∷ 99 ∷ 97 ∷ 108 ∷ 108 ∷ 39 ∷ 115 ∷ 32 ∷ 110 ∷ 97 ∷ 109 ∷ 101 ∷ 32 ∷ 97 ∷ 102 ∷ 116 ∷ 101 ∷ 114 ∷ 58 ∷ 32 ∷ 64 ∷ 51 ∷ 10 ∷ [])
    -- start 0 | @3 enqueue 0 0 1 7 0 0 10 # good
    -- says nothing
    ∷ same_text (messages_of (115 ∷ 116 ∷ 97 ∷ 114 ∷ 116 ∷ 32 ∷ 48 ∷ 10 ∷ 64 ∷ 51 ∷ 32 ∷ 101 ∷ 110 ∷ 113 ∷ 117 ∷ 101 ∷ 117 ∷ 101 ∷ 32 ∷ 48 ∷ 32 ∷ 48 ∷ 32 ∷ 49 ∷ 32 ∷ 55 ∷ 32 ∷ 48 ∷ 32 ∷ 48 ∷ 32 ∷ 49 ∷ 48 ∷ 32 ∷ 35 ∷ 32 ∷ 103 ∷ 111 ∷ 111 ∷ 100 ∷ [])) ([])
    -- @3, as a call file: bad text
    ∷ same_text (file_of (64 ∷ 51 ∷ [])) bad_text
    ∷ []

all_right : T (every cases)
unfolding cases
all_right = tt
