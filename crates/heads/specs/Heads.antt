-- The tests of the head of a sound state one by one, as the code makes them. Assumes nothing.
use Rattle.std.specs.Prelude.{Bool, ◌&&◌, ◌||◌, List, ℕ, ◌^◌, leb, ltb, eqb, length, drop}
use Rattle.definition.specs.Calls.{bound, counters_ok}
use Rattle.definition.specs.Words.{at}
use Rattle.definition.specs.Layout.{stats_at, is_mark, rings_formed}

abbrev pub limits_ok : List ℕ → Bool
limits_ok h = leb 1 (at 2 h) && (leb (at 2 h) (2 ^ 40) && (leb (at 3 h) (at 2 h) && (leb (at 1 h) 512 && (leb (at 8345 h) 86400000 && (leb 1 (at 8346 h) && leb (at 8346 h) 512)))))

abbrev pub counts_ok : List ℕ → Bool
counts_ok h = leb (at 12 h) 32 && (leb (at 13 h) 32 && (leb (at 14 h) 8 && (ltb (at 4 h) (at 12 h) || eqb (at 4 h) 0)))

-- the kind and whether it is idle, and since when
abbrev pub marks_ok : List ℕ → Bool
marks_ok h = is_mark (at 0 h) && (is_mark (at 5 h) && (eqb (at 5 h) 0 || leb (at 6 h) (2 ^ 62)))

unfoldable pub head_ok : List ℕ → Bool
head_ok h = limits_ok h && (counts_ok h && (marks_ok h && counters_ok (bound (at 3 h)) (stats_at h)))

-- it is long enough, its own words are sound, and so is each audit's ring
unfoldable pub head_sound : List ℕ → Bool
head_sound h = leb 8347 (length h) && (head_ok h && rings_formed (at 14 h) (drop 113 h))
