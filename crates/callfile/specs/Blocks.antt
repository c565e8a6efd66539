-- Blocks of the call file: 512 bytes, up to seven calls of 72 bytes, the count in bytes 504 to 507, the check in 508 to 511. Assumes nothing.
use Rattle.std.specs.Prelude.{ℕ, ◌+◌, ◌*◌, ◌-◌, ◌^◌, Bool, ◌&&◌, List, [], ◌∷◌, leb, eqb, length, take, get_or, replicate}
use Rattle.words.specs.Pick.{whether◌then◌else◌}
use Rattle.calls.specs.declared.Call.{Call}
use Rattle.calls.specs.Calls.{new_call}

abbrev pub byte_at : ℕ → List ℕ → ℕ
byte_at k block = get_or block k 0

-- four bytes from a place on, and eight, little-endian
unfoldable pub number_at : ℕ → List ℕ → ℕ
number_at at block = byte_at at block + 256 * byte_at (at + 1) block + 65536 * byte_at (at + 2) block + 16777216 * byte_at (at + 3) block

unfoldable pub word_at : ℕ → List ℕ → ℕ
word_at at block = number_at at block + 2 ^ 32 * number_at (at + 4) block

-- the sum of (position + 1) × byte, of bytes whose first is at position k
unfoldable pub check_from : ℕ → List ℕ → ℕ
check_from k [] = 0
check_from k (b ∷ bs) = (k + 1) * b + check_from (k + 1) bs

abbrev pub check : List ℕ → ℕ
check block = check_from 0 (take 508 block)

-- of a block that is long enough
unfoldable pub check_in : List ℕ → ℕ
check_in block = whether leb 512 (length block) then check block else 0

-- whole, with a count of 1 to 7 and its check
unfoldable pub good : List ℕ → ℕ → Bool
good block got = leb 512 (length block) && eqb got 512 && leb (number_at 504 block) 7 && eqb (number_at 508 block) (check block) && leb 1 (number_at 504 block)

-- how many calls a block has, of which so many bytes were read; 0: it is a bad one
unfoldable pub calls_in : List ℕ → ℕ → ℕ
calls_in block got = whether good block got then number_at 504 block else 0

-- the eight words from a place on
abbrev pub words_at : ℕ → List ℕ → List ℕ
words_at at block =
    word_at (at + 8) block
    ∷ word_at (at + 16) block
    ∷ word_at (at + 24) block
    ∷ word_at (at + 32) block
    ∷ word_at (at + 40) block
    ∷ word_at (at + 48) block
    ∷ word_at (at + 56) block
    ∷ word_at (at + 64) block
    ∷ []

-- a call of an unknown code
abbrev pub no_such_call : Call
no_such_call = new_call (2 ^ 64 - 1) (replicate 8 0)

-- call k, from 0
unfoldable pub call_at : ℕ → List ℕ → Call
call_at k block = whether leb 512 (length block) && leb k 6 then new_call (word_at (k * 72) block) (words_at (k * 72) block) else no_such_call
