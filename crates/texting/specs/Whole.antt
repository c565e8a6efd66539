-- The call file of a whole text, and its messages. Assumes nothing.
use Rattle.std.specs.Prelude.{ℕ, ◌+◌, List, [], ◌∷◌, ◌++◌, eqb, leb, length, replicate}
use Rattle.words.specs.Pick.{whether◌then◌else◌}
use Rattle.calls.specs.declared.Call.{Call}
use Rattle.callblocks.specs.Packed.{with_call, sealed}
use Rattle.texting.specs.Lines.{lines_of, line_calls, messages}

abbrev pub empty : List ℕ
empty = replicate 512 0

-- the blocks of some calls, after a block with k: seven to a block, the last one with what is left
unfoldable pub blocks : List ℕ → ℕ → List Call → List ℕ
blocks block k [] = whether eqb k 0 then [] else sealed k block
blocks block k (c ∷ cs) = whether leb 7 k then sealed 7 block ++ blocks (with_call 0 c empty) 1 cs else blocks (with_call k c block) (k + 1) cs

-- what is said of a text, by its bad lines
unfoldable pub messages_of : List ℕ → List ℕ
messages_of text = messages 1 (lines_of text)

-- `bad text`, which is too short for a block
abbrev pub bad_text : List ℕ
bad_text = 98 ∷ 97 ∷ 100 ∷ 32 ∷ 116 ∷ 101 ∷ 120 ∷ 116 ∷ 10 ∷ []

-- the call file of a text; where a line is bad, no block
unfoldable pub file_of : List ℕ → List ℕ
file_of text = whether eqb (length (messages_of text)) 0 then blocks empty 0 (line_calls (lines_of text)) else bad_text
