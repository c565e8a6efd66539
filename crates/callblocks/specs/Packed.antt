-- A block of the call file as it is written: each number little-endian, the calls from the front, then the count and the check.
-- Assumes nothing.
use Rattle.std.specs.Prelude.{ℕ, zero, suc, ◌*◌, ◌/◌, ◌%◌, ◌&&◌, List, [], ◌∷◌, ◌++◌, leb, length}
use Rattle.std.proofs.lemmas.List.Edits.{sets}
use Rattle.words.specs.Pick.{whether◌then◌else◌}
use Rattle.calls.specs.declared.Call.{Call}
use Rattle.callfile.specs.Blocks.{check}

-- a number in so many bytes, the lowest first
unfoldable pub low_bytes : ℕ → ℕ → List ℕ
low_bytes zero n = []
low_bytes (suc k) n = n % 256 ∷ low_bytes k (n / 256)

-- words of eight bytes
unfoldable pub word_bytes : List ℕ → List ℕ
word_bytes [] = []
word_bytes (w ∷ ws) = low_bytes 8 w ++ word_bytes ws

-- a call in its 72 bytes
unfoldable pub call_bytes : Call → List ℕ
call_bytes c = word_bytes (c.code ∷ c.words)

-- the block with call k, from 0 to 6; a short one as it was
unfoldable pub with_call : ℕ → Call → List ℕ → List ℕ
with_call k c block = whether leb 512 (length block) && leb k 6 then sets block (k * 72) (call_bytes c) else block

-- with a count, and then the check
abbrev pub with_count : ℕ → List ℕ → List ℕ
with_count n block = sets block 504 (low_bytes 4 n)

abbrev pub with_check : List ℕ → List ℕ
with_check block = sets block 508 (low_bytes 4 (check block))

unfoldable pub sealed : ℕ → List ℕ → List ℕ
sealed n block = whether leb 512 (length block) then with_check (with_count n block) else block
