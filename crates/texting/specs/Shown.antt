-- A block of a call file as text. Assumes nothing.
use Rattle.std.specs.Prelude.{ℕ, zero, suc, List, [], ◌++◌, eqb}
use Rattle.words.specs.Pick.{whether◌then◌else◌}
use Rattle.callfile.specs.Blocks.{calls_in, call_at}
use Rattle.callfile.specs.Lines.{bad_line}
use Rattle.calltext.specs.Shown.{call_text}

-- the lines of the first k calls
unfoldable pub call_texts : ℕ → List ℕ → List ℕ
call_texts zero block = []
call_texts (suc k) block = call_texts k block ++ call_text (call_at k block)

-- block n, of which so many bytes were read
unfoldable pub block_text : ℕ → List ℕ → ℕ → List ℕ
block_text n block got = whether eqb (calls_in block got) 0 then bad_line n else call_texts (calls_in block got) block
