-- Document 01's starred cases of entry.rs, as one table that antt computes. Assumes nothing.
use Rattle.std.specs.Prelude.{Bool, true, not, ◌&&◌, List, [], ◌∷◌, T, ℤ, pos, negsuc}
use Rattle.std.specs.Int.Signed.{le_z}
use Rattle.words.specs.Pick.{every}
use Rattle.entry.specs.declared.Entry.{Entry}
use Rattle.entry.specs.Entry.{expired, one_more, redelivered}

abbrev entry : ℤ → ℤ → Entry
entry expiration redelivery = record { seq = 1; expiration = expiration; producer = 0; match_word = 0; redelivery = redelivery; persistent = true; size = 0 }

abbrev expires : ℤ → Bool
expires expiration = expired (pos 50) (entry expiration (pos 0))

abbrev rises : ℤ → ℤ → Bool
rises from to = let r = (redelivered (entry (pos 0) from)).redelivery in le_z r to && le_z to r

-- at clock 50: expiration 0, -1, equal to the clock, clock + 1; and redelivery
cases : List Bool
cases =
    not (expires (pos 0))
    ∷ not (expires (negsuc 0))
    ∷ expires (pos 50)
    ∷ not (expires (pos 51))
    ∷ rises (pos 2147483647) (pos 2147483647)
    ∷ rises (pos 2147483646) (pos 2147483647)
    ∷ rises (negsuc 0) (pos 0)
    ∷ []

all_right : T (every cases)
unfolding cases expired one_more
all_right = tt
