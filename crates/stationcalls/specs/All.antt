-- All dead letters of one call: numbered, and then run. Assumes nothing.
use Rattle.std.specs.Prelude.{◌≡◌, List, [], ◌∷◌, ◌++◌, map, ℕ, ◌+◌, ◌≤◌, ◌<◌, ◌^◌, length, get_or, set, take, drop}
use Rattle.definition.specs.Types.{Entry}
use Rattle.definition.specs.Calls.{seqs}
use Rattle.definition.specs.Words.{at}
use Rattle.definition.specs.Layout.{Row}
use Rattle.definition_station.specs.Types.{Station, RanLetters}
use Rattle.definition_station.specs.Letters.{number_letters, running, hops_max}
use Rattle.definition_stationfates.specs.Told.{letter_places, told_row, tell_each}
use Rattle.definition_station.specs.Layout.{StationBuffers, station_view, sent_words}
use Rattle.stationcalls.specs.Parts.{AllPast}
use Rattle.stationcalls.specs.Run.{Sounds, OnwardAt}

-- what the definition gives for the letters of a destination that has this name
abbrev pub all_run : ℕ → ℕ → List Entry → Station → RanLetters
all_run now name es s = running hops_max now name (number_letters es s).letters (number_letters es s).station

-- and what became of each: the number that it had, the one that it got, and the place where it is stored
abbrev pub all_told : ℕ → ℕ → List Entry → Station → List Row
all_told now name es s = map told_row (tell_each es (seqs (number_letters es s).letters) (letter_places hops_max now name (number_letters es s).letters (number_letters es s).station))

-- as the code has them: rejected rows, and the numbers and places that they got
unfoldable pub rows_told : List Row → List ℕ → List ℕ → List Row
rows_told [] ns ps = []
rows_told (w ∷ ws) ns ps = (at 0 w ∷ at 0 ns ∷ get_or ps 0 8 ∷ []) ∷ rows_told ws (drop 1 ns) (drop 1 ps)

abbrev pub numbers_got : ℕ → List Row → List ℕ
numbers_got many letters = map (at 0) (take many letters)

-- the lent buffers are long enough, each open destination is sound, and the next number is in range
pub record LendsAll (b : StationBuffers) : Type 0 where
  pub heads-long : 66776 ≤ length b.heads
  pub subs-long : 256 ≤ length b.subs
  pub rows_long : 4096 ≤ length b.rows
  pub own-long : 20 ≤ length b.own
  pub next_low : 1 ≤ at 16 b.own
  pub next-high : at 16 b.own ≤ 2 ^ 63
  pub sound : Sounds b

-- what numbering and running them leaves, where q is what its definition gives
pub record RanAll (q : RanLetters) (b b' : StationBuffers) (events events' : List Row) (sent sent' : ℕ) : Type 0 where
  pub shows : station_view b' ≡ q.station
  pub own_is : b'.own ≡ set (set b.own 16 q.station.next) 17 q.station.lost
  pub count : sent' ≡ sent + length q.events
  pub first : take sent' events' ≡ take sent events ++ map sent_words q.events
  pub later : drop sent' events' ≡ drop sent' events
  pub events-length : length events' ≡ length events
  pub leaves-sound : Sounds b'
  pub past : AllPast b b'
  pub onward : (j : ℕ) → j < 8 → OnwardAt b b' j
