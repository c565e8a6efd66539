-- What the arguments of a program ask for, and what a file looks like by its first bytes. Assumes nothing.
use Rattle.std.specs.Prelude.{ℕ, Bool, true, false, not, ◌&&◌, ◌||◌, List, [], ◌∷◌, eqb, leb, length, get_or, take}
use Rattle.words.specs.Pick.{whether◌then◌else◌}
use Rattle.textwords.specs.Text.{same_text, has_mark}
use Rattle.callfile.specs.Blocks.{calls_in}
use Rattle.callfile.specs.declared.Reading.{Reading}
use Rattle.program.specs.declared.Asks.{Asks}
use Rattle.program.specs.declared.Asks.TheVariants.{File, Help, Wrong}
use Rattle.program.specs.declared.Looks.{Looks}
use Rattle.program.specs.declared.Looks.TheVariants.{Calls, Marked, Text, Other}

-- `--help`
abbrev pub help_word : List ℕ
help_word = 45 ∷ 45 ∷ 104 ∷ 101 ∷ 108 ∷ 112 ∷ []

-- one word: a file's name, `--help`, or another option or nothing, which is wrong
unfoldable pub word_asks : List ℕ → Asks
word_asks word = whether same_text word help_word then Help else whether eqb (length word) 0 then Wrong else whether eqb (get_or word 0 0) 45 then Wrong else File

-- a byte of a text: printable ASCII, a tab, the end of a line
abbrev pub is_text_byte : ℕ → Bool
is_text_byte b = (leb 32 b && leb b 126) || (eqb b 9 || (eqb b 10 || eqb b 13))

unfoldable pub are_text : List ℕ → Bool
are_text [] = true
are_text (b ∷ bs) = whether is_text_byte b then are_text bs else false

-- a text that begins with a byte order mark, a text, or something else
unfoldable pub part_like : List ℕ → Looks
part_like part = whether has_mark part then Marked else whether are_text part then Text else Other

-- the first n bytes of a file; or a block of a call file
unfoldable pub looks_like : List ℕ → ℕ → Looks
looks_like bytes n = whether eqb (calls_in bytes n) 0 then part_like (take n bytes) else Calls

abbrev pub are_calls : Looks → Bool
are_calls Calls = true
are_calls Marked = false
are_calls Text = false
are_calls Other = false

-- how many bytes of a block of so many places were read: those of the one that was begun, or, where blocks were read, all
abbrev pub read_of : ℕ → Reading → ℕ
read_of places at = whether eqb at.number 0 then at.have else places

-- bytes were read and not one call, and they are no block of calls
unfoldable pub is_puzzling : List ℕ → Reading → Bool
is_puzzling block at = eqb at.index 0 && (not (eqb (read_of (length block) at) 0) && not (are_calls (looks_like block (read_of (length block) at))))
