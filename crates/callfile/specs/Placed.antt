-- Bytes put into a lent buffer. Assumes nothing.
use Rattle.std.specs.Prelude.{ℕ, ◌+◌, ◌≡◌, Bool, List, ◌++◌, leb, length, take, drop}
use Rattle.std.proofs.lemmas.List.Edits.{sets}
use Rattle.words.specs.Pick.{whether◌then◌else◌}

-- a part of a line, put from `at` on, where it has room: the buffer and the place after it
pub record Puts (part : List ℕ) (at : ℕ) (out : List ℕ) (r : ℕ) (out' : List ℕ) : Type 0 where
  pub text : out' ≡ sets out at part
  pub next : r ≡ at + length part
  pub same : length out' ≡ length out

-- a line is put where there is room for so many bytes
abbrev pub line_room : ℕ → ℕ → List ℕ → Bool
line_room most at out = leb (at + most) (length out)

-- the buffer with a line from `at` on, and the place after it; without room, as it was
unfoldable pub line_placed : ℕ → List ℕ → ℕ → List ℕ → List ℕ
line_placed most line at out = whether line_room most at out then take at out ++ (line ++ drop (at + length line) out) else out

unfoldable pub place_after : ℕ → List ℕ → ℕ → List ℕ → ℕ
place_after most line at out = whether line_room most at out then at + length line else at

-- what putting a line leaves
pub record PutLine (most : ℕ) (line : List ℕ) (at : ℕ) (out : List ℕ) (r : ℕ) (out' : List ℕ) : Type 0 where
  pub text : out' ≡ line_placed most line at out
  pub next : r ≡ place_after most line at out
