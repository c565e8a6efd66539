-- Texts and the numbers that they spell, as one table that antt computes. Assumes nothing.
use Rattle.std.specs.Prelude.{◌-◌, ◌^◌, Bool, true, false, ◌&&◌, List, [], ◌∷◌, eqb, T, ℤ, pos, negsuc, Option, Some, None}
use Rattle.std.specs.Int.Signed.{le_z}
use Rattle.words.specs.Pick.{every}
use Rattle.leafcases.specs.Parse.{next_digit, spelled_after, digits_of, positive, negative, spelled, word_length}

abbrev is : Option ℤ → ℤ → Bool
is (Some a) b = le_z a b && le_z b a
is None b = false

abbrev bad : Option ℤ → Bool
bad (Some a) = false
bad None = true

cases : List Bool
unfolding next_digit spelled_after digits_of positive negative spelled word_length
cases =
    is (spelled (48 ∷ [])) (pos 0)
    ∷ is (spelled (45 ∷ 48 ∷ [])) (pos 0)
    ∷ is (spelled (48 ∷ 48 ∷ 55 ∷ [])) (pos 7)
    ∷ is (spelled (45 ∷ 49 ∷ [])) (negsuc 0)
    ∷ is (spelled (57 ∷ 50 ∷ 50 ∷ 51 ∷ 51 ∷ 55 ∷ 50 ∷ 48 ∷ 51 ∷ 54 ∷ 56 ∷ 53 ∷ 52 ∷ 55 ∷ 55 ∷ 53 ∷ 56 ∷ 48 ∷ 55 ∷ [])) (pos (2 ^ 63 - 1))
    ∷ is (spelled (45 ∷ 57 ∷ 50 ∷ 50 ∷ 51 ∷ 51 ∷ 55 ∷ 50 ∷ 48 ∷ 51 ∷ 54 ∷ 56 ∷ 53 ∷ 52 ∷ 55 ∷ 55 ∷ 53 ∷ 56 ∷ 48 ∷ 56 ∷ [])) (negsuc (2 ^ 63 - 1))
    ∷ bad (spelled (57 ∷ 50 ∷ 50 ∷ 51 ∷ 51 ∷ 55 ∷ 50 ∷ 48 ∷ 51 ∷ 54 ∷ 56 ∷ 53 ∷ 52 ∷ 55 ∷ 55 ∷ 53 ∷ 56 ∷ 48 ∷ 56 ∷ []))
    ∷ bad (spelled (45 ∷ 57 ∷ 50 ∷ 50 ∷ 51 ∷ 51 ∷ 55 ∷ 50 ∷ 48 ∷ 51 ∷ 54 ∷ 56 ∷ 53 ∷ 52 ∷ 55 ∷ 55 ∷ 53 ∷ 56 ∷ 48 ∷ 57 ∷ []))
    ∷ bad (spelled (49 ∷ 56 ∷ 52 ∷ 52 ∷ 54 ∷ 55 ∷ 52 ∷ 52 ∷ 48 ∷ 55 ∷ 51 ∷ 55 ∷ 48 ∷ 57 ∷ 53 ∷ 53 ∷ 49 ∷ 54 ∷ 49 ∷ 54 ∷ []))
    ∷ bad (spelled [])
    ∷ bad (spelled (45 ∷ []))
    ∷ bad (spelled (45 ∷ 45 ∷ 49 ∷ []))
    ∷ bad (spelled (49 ∷ 45 ∷ []))
    ∷ bad (spelled (43 ∷ 49 ∷ []))
    ∷ bad (spelled (49 ∷ 47 ∷ []))
    ∷ bad (spelled (49 ∷ 58 ∷ []))
    ∷ eqb (word_length (97 ∷ 98 ∷ 32 ∷ 99 ∷ [])) 2
    ∷ eqb (word_length (97 ∷ 98 ∷ 99 ∷ [])) 3
    ∷ []

all_right : T (every cases)
unfolding cases
all_right = tt
