-- The tests of a sound station one by one, as the code makes them: the own words, and the open destinations but one. Assumes nothing.
use Rattle.std.specs.Prelude.{ℕ, ◌+◌, ◌^◌, Bool, not, ◌&&◌, ◌||◌, List, leb, ltb, eqb}
use Rattle.definition.specs.Base.{all, up_from}
use Rattle.definition.specs.Words.{at}
use Rattle.definition.specs.Layout.{flag, is_mark, sound_buffers}
use Rattle.definition_station.specs.Layout.{StationBuffers, part, is_open}

-- a place's own words: its mark is 0 or 1, and where it is set its name is 0 to 8
unfoldable pub place_ok : List ℕ → ℕ → Bool
place_ok own k = is_mark (at k own) && (not (flag (at k own)) || leb (at (8 + k) own) 8)

-- the next number and the lost count
unfoldable pub given_ok : List ℕ → Bool
given_ok own = leb 1 (at 16 own) && (leb (at 16 own) (2 ^ 63) && ltb (at 17 own) (2 ^ 63))

unfoldable pub own_words_ok : List ℕ → Bool
own_words_ok own = all (place_ok own) (up_from 0 8) && given_ok own

-- a destination is not open, or sound
unfoldable pub part_ok : StationBuffers → ℕ → Bool
part_ok b j = not (is_open j b) || sound_buffers (part j b)

-- that, or it is the one that is called
unfoldable pub other_ok : StationBuffers → ℕ → ℕ → Bool
other_ok b k j = eqb j k || part_ok b j
