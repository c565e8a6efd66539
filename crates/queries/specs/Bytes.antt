-- The bytes of rows, as the code adds them. What `bytes_held` ensures is said by the definitions alone. Assumes nothing.
use Rattle.std.specs.Prelude.{List, [], ◌∷◌, map, ℕ, ◌+◌, ◌≤◌, ◌<◌, get_or}
use Rattle.words.specs.Pick.{whether◌then◌else◌}
use Rattle.definition.specs.Base.{member}
use Rattle.definition.specs.Words.{at}
use Rattle.definition.specs.Layout.{Row}

-- `bytes_of` the rows' entries
abbrev pub bytes_at : List Row → ℕ
bytes_at [] = 0
bytes_at (w ∷ ws) = (whether member (at 0 w) (map (at 0) ws) then 0 else at 9 w) + bytes_at ws

-- each row's size, whatever its number
abbrev pub sizes_of : List Row → ℕ
sizes_of [] = 0
sizes_of (w ∷ ws) = at 9 w + sizes_of ws

-- the first n rows have sizes in range
abbrev pub Small : ℕ → List Row → Type 0
Small n rows = (k : ℕ) → k < n → at 9 (get_or rows k []) ≤ 4294967295
