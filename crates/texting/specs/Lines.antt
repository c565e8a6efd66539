-- The lines of a text, the calls of the good ones, and what is said of the bad ones. Assumes nothing.
use Rattle.std.specs.Prelude.{Option, Some, None, Ok, Err, ℕ, Bool, ◌&&◌, List, [], ◌∷◌, ◌++◌, map, unwrap_or, is_some, eqb, leb, length, take}
use Rattle.std.specs.Result.{result_err}
use Rattle.words.specs.Pick.{whether◌then◌else◌}
use Rattle.stats.specs.Counted.{more}
use Rattle.calls.specs.declared.Call.{Call}
use Rattle.callfile.specs.Lines.{field}
use Rattle.textwords.specs.Text.{onto, has_mark}
use Rattle.calltext.specs.declared.Fault.{Fault}
use Rattle.calltext.specs.declared.Fault.TheVariants.{UnknownCall, NotANumber, TooManyArguments, NotADestination, NoName}
use Rattle.calltext.specs.Lines.{Parsed, line_call}
use Rattle.calltext.specs.Faults.{fault_word}

-- parted at each end of a line; the last line needs none
unfoldable pub lines_of : List ℕ → List (List ℕ)
lines_of [] = []
lines_of (b ∷ bs) = whether eqb b 10 then [] ∷ lines_of bs else onto b (lines_of bs)

-- what is wrong with a line: nothing with a call, or an empty one
abbrev pub line_fault : List ℕ → Option Fault
line_fault line = result_err (line_call line)

abbrev pub is_bad : List ℕ → Bool
is_bad line = is_some (line_fault line)

-- a line's call before others, where it is a call
abbrev pub call_onto : Parsed → List Call → List Call
call_onto (Ok (Some c)) cs = c ∷ cs
call_onto (Ok None) cs = cs
call_onto (Err f) cs = cs

-- the calls of some lines
unfoldable pub line_calls : List (List ℕ) → List Call
line_calls [] = []
line_calls (l ∷ ls) = call_onto (line_call l) (line_calls ls)

-- `: unknown call: `, `: not a number of 64 bits: `, `: more than eight arguments: `, `: not a destination's number: `, `: no call's name after: `, each before
-- the word at fault
abbrev pub unknown_call : List ℕ
unknown_call = 58 ∷ 32 ∷ 117 ∷ 110 ∷ 107 ∷ 110 ∷ 111 ∷ 119 ∷ 110 ∷ 32 ∷ 99 ∷ 97 ∷ 108 ∷ 108 ∷ 58 ∷ 32 ∷ []

abbrev pub no_number : List ℕ
no_number = 58 ∷ 32 ∷ 110 ∷ 111 ∷ 116 ∷ 32 ∷ 97 ∷ 32 ∷ 110 ∷ 117 ∷ 109 ∷ 98 ∷ 101 ∷ 114 ∷ 32 ∷ 111 ∷ 102 ∷ 32 ∷ 54 ∷ 52 ∷ 32 ∷ 98 ∷ 105 ∷ 116 ∷ 115 ∷ 58 ∷ 32 ∷ []

abbrev pub too_many : List ℕ
too_many = 58 ∷ 32 ∷ 109 ∷ 111 ∷ 114 ∷ 101 ∷ 32 ∷ 116 ∷ 104 ∷ 97 ∷ 110 ∷ 32 ∷ 101 ∷ 105 ∷ 103 ∷ 104 ∷ 116 ∷ 32 ∷ 97 ∷ 114 ∷ 103 ∷ 117 ∷ 109 ∷ 101 ∷ 110 ∷ 116 ∷ 115 ∷ 58 ∷ 32 ∷ []

abbrev pub no_destination : List ℕ
no_destination = 58 ∷ 32 ∷ 110 ∷ 111 ∷ 116 ∷ 32 ∷ 97 ∷ 32 ∷ 100 ∷ 101 ∷ 115 ∷ 116 ∷ 105 ∷ 110 ∷ 97 ∷ 116 ∷ 105 ∷ 111 ∷ 110 ∷ 39 ∷ 115 ∷ 32 ∷ 110 ∷ 117 ∷ 109 ∷ 98 ∷ 101 ∷ 114 ∷ 58 ∷ 32 ∷ []

abbrev pub no_name : List ℕ
no_name = 58 ∷ 32 ∷ 110 ∷ 111 ∷ 32 ∷ 99 ∷ 97 ∷ 108 ∷ 108 ∷ 39 ∷ 115 ∷ 32 ∷ 110 ∷ 97 ∷ 109 ∷ 101 ∷ 32 ∷ 97 ∷ 102 ∷ 116 ∷ 101 ∷ 114 ∷ 58 ∷ 32 ∷ []

unfoldable pub complaint : Fault → List ℕ
complaint UnknownCall = unknown_call
complaint NotANumber = no_number
complaint TooManyArguments = too_many
complaint NotADestination = no_destination
complaint NoName = no_name

-- what is said to be wrong with a line; of one that is not bad, that it has no name
abbrev pub said_fault : List ℕ → Fault
said_fault line = unwrap_or (line_fault line) NoName

-- a byte of a word, if it is printable ASCII; else a question mark
abbrev pub shown_byte : ℕ → ℕ
shown_byte b = whether leb 32 b && leb b 126 then b else 63

-- the end of a line, after `..` where a word was cut
abbrev pub cut_end : List ℕ → List ℕ
cut_end word = whether leb (length word) 40 then 10 ∷ [] else 46 ∷ 46 ∷ 10 ∷ []

-- a word up to its 40th byte
unfoldable pub shown_word : List ℕ → List ℕ
shown_word word = map shown_byte (take 40 word) ++ cut_end word

-- `: begins with a byte order mark: save the text without one`, with the end of a line
abbrev pub mark_complaint : List ℕ
mark_complaint = 58 ∷ 32 ∷ 98 ∷ 101 ∷ 103 ∷ 105 ∷ 110 ∷ 115 ∷ 32 ∷ 119 ∷ 105 ∷ 116 ∷ 104 ∷ 32 ∷ 97 ∷ 32 ∷ 98 ∷ 121 ∷ 116 ∷ 101 ∷ 32 ∷ 111 ∷ 114 ∷ 100 ∷ 101 ∷ 114 ∷ 32 ∷ 109 ∷ 97 ∷ 114 ∷ 107 ∷ 58 ∷ 32 ∷ 115 ∷ 97 ∷ 118 ∷ 101 ∷ 32 ∷ 116 ∷ 104 ∷ 101 ∷ 32 ∷ 116 ∷ 101 ∷ 120 ∷ 116 ∷ 32 ∷ 119 ∷ 105 ∷ 116 ∷ 104 ∷ 111 ∷ 117 ∷ 116 ∷ 32 ∷ 111 ∷ 110 ∷ 101 ∷ 10 ∷ []

-- a byte order mark begins the first line
abbrev pub marked_line : ℕ → List ℕ → Bool
marked_line n line = eqb n 1 && has_mark line

-- what is wrong with line n
unfoldable pub wrong_with : ℕ → List ℕ → List ℕ
wrong_with n line = whether marked_line n line then mark_complaint else complaint (said_fault line) ++ shown_word (fault_word line)

-- `line` and a line's number
abbrev pub line_number : ℕ → List ℕ
line_number n = 108 ∷ 105 ∷ 110 ∷ 101 ∷ field n

unfoldable pub message : ℕ → List ℕ → List ℕ
message n line = line_number n ++ wrong_with n line

-- of a line that is too long to be read: `: longer than 1048576 bytes`
unfoldable pub long_message : ℕ → List ℕ
long_message n = line_number n ++ (58 ∷ 32 ∷ 108 ∷ 111 ∷ 110 ∷ 103 ∷ 101 ∷ 114 ∷ 32 ∷ 116 ∷ 104 ∷ 97 ∷ 110 ∷ 32 ∷ 49 ∷ 48 ∷ 52 ∷ 56 ∷ 53 ∷ 55 ∷ 54 ∷ 32 ∷ 98 ∷ 121 ∷ 116 ∷ 101 ∷ 115 ∷ 10 ∷ [])

-- the messages of the bad lines, the first line having the number n; lines are counted up to 2^64 - 1
unfoldable pub messages : ℕ → List (List ℕ) → List ℕ
messages n [] = []
messages n (l ∷ ls) = whether is_bad l then message n l ++ messages (more n) ls else messages (more n) ls
