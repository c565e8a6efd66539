-- Copies of one entry among rows, as the code looks for them. What `agree` ensures is said by the definitions alone. Assumes nothing.
use Rattle.std.specs.Prelude.{◌≡◌, Bool, true, false, not, ◌&&◌, ◌||◌, List, [], ◌∷◌, map, ℕ, ◌≤◌, ◌<◌, leb, eqb}
use Rattle.std.proofs.Math.Seq.{slice}
use Rattle.words.specs.Pick.{whether◌then◌else◌}
use Rattle.definition.specs.Base.{all, member, tally}
use Rattle.definition.specs.Words.{at}
use Rattle.definition.specs.Layout.{Row, flag}

-- a row with this number has this size
abbrev pub alike : ℕ → ℕ → Row → Bool
alike x z w = not (eqb x (at 0 w)) || eqb z (at 9 w)

-- `sizes_agree` of the rows' entries
abbrev pub agree_at : List Row → Bool
agree_at [] = true
agree_at (w ∷ ws) = all (alike (at 0 w) (at 9 w)) ws && agree_at ws

-- what a table holds for a number: 0 where none of the rows has it, else the place after one of them
abbrev pub Slot : ℕ → ℕ → ℕ → ℕ → List Row → Type 0
Slot x place from to rows = (place ≡ 0 → member x (map (at 0) (slice from to rows)) ≡ false) × (0 < place → (from < place) × (place ≤ to))

-- a consumer has rows that may be copies: on a queue only a browser has
abbrev pub may_copy : Bool → Row → Bool
may_copy q w = (not q || flag (at 6 w)) && not (eqb (at 14 w) 0 && eqb (at 15 w) 0)

-- on a queue one such, on a topic two
abbrev pub shared_by : Bool → List Row → Bool
shared_by q l = leb (whether q then 1 else 2) (tally (may_copy q) l)
