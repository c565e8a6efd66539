-- A word of text as a 64-bit word: decimal digits, or a minus and the digits of a negative number, which is taken in two's complement.
-- Assumes nothing.
use Rattle.std.specs.Prelude.{Option, Some, None, ℕ, ◌+◌, ◌*◌, ◌-◌, ◌^◌, Bool, ◌&&◌, List, [], ◌∷◌, eqb, leb, ltb}
use Rattle.words.specs.Pick.{whether◌then◌else◌}

abbrev pub is_digit : ℕ → Bool
is_digit b = leb 48 b && leb b 57

-- the digits after a number, while it is one of 64 bits
unfoldable pub digits_after : ℕ → List ℕ → Option ℕ
digits_after n [] = Some n
digits_after n (b ∷ bs) = whether is_digit b && ltb (n * 10 + (b - 48)) (2 ^ 64) then digits_after (n * 10 + (b - 48)) bs else None

-- at least one digit
unfoldable pub unsigned_of : List ℕ → Option ℕ
unsigned_of [] = None
unsigned_of (b ∷ bs) = digits_after 0 (b ∷ bs)

-- less than nothing by n, down to -2^63
unfoldable pub negated : Option ℕ → Option ℕ
negated None = None
negated (Some n) = whether eqb n 0 then Some 0 else whether leb n (2 ^ 63) then Some (2 ^ 64 - n) else None

unfoldable pub number_of : List ℕ → Option ℕ
number_of [] = None
number_of (b ∷ bs) = whether eqb b 45 then negated (unsigned_of bs) else unsigned_of (b ∷ bs)
