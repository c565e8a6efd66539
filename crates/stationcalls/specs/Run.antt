-- Dead letters on lent buffers: storing one, and running some, while the station's other numbers stand still. Assumes nothing.
use Rattle.std.specs.Prelude.{◌≡◌, Bool, true, false, List, [], ◌∷◌, ◌++◌, map, ℕ, ◌+◌, ◌*◌, ◌%◌, ◌≤◌, ◌<◌, ◌^◌, ltb, length, take, drop}
use Rattle.definition.specs.Base.{whether◌then◌else◌, is_some}
use Rattle.definition.specs.Types.{Entry}
use Rattle.definition.specs.Words.{at, entry_in, decode}
use Rattle.definition.specs.Layout.{Row, view, sound_buffers}
use Rattle.definition_station.specs.Types.{Station, RanLetters}
use Rattle.definition_station.specs.Letters.{storing, running}
use Rattle.definition_stationfates.specs.Told.{letter_place, letter_places}
use Rattle.definition_station.specs.Layout.{StationBuffers, part, is_open, station_view, sent_words}
use Rattle.stationcalls.specs.Parts.{AllPast}

-- the station with this lost count, which the code carries beside the buffers
abbrev pub with_lost : ℕ → Station → Station
with_lost n s = record { slots = s.slots; next = s.next; lost = n }

-- "the lost count stops at 2^63−1"
abbrev pub one_more_lost : ℕ → ℕ
one_more_lost n = whether ltb (n + 1) (2 ^ 63) then n + 1 else n

-- an event's words with its destination's number; its kind is below 256
abbrev pub named : ℕ → Row → Row
named k e = (at 0 e % 256 + 256 * k) ∷ at 1 e ∷ at 2 e ∷ at 3 e ∷ at 4 e ∷ at 5 e ∷ []

-- a letter is held in the words of an enqueue, whose clock is the acknowledgement's
abbrev pub letter_call : ℕ → Row → Row
letter_call clock w = at 0 w ∷ at 1 w ∷ at 2 w ∷ at 3 w ∷ at 4 w ∷ at 5 w ∷ clock ∷ at 7 w ∷ []

abbrev pub letter_ok : ℕ → Row → Bool
letter_ok clock w = is_some (decode 1 (letter_call clock w))

-- what it shows
abbrev pub shown_with : StationBuffers → ℕ → Station
shown_with b lost = with_lost lost (station_view b)

-- each open destination is sound
pub record Sounds (b : StationBuffers) : Type 0 where
  pub sounds : (j : ℕ) → j < 8 → is_open j b ≡ true → sound_buffers (part j b) ≡ true

-- the lent buffers are long enough, one destination's list of events has its length, and each open destination is sound
pub record Lends (b : StationBuffers) (scratch : List Row) : Type 0 where
  pub heads-long : 66776 ≤ length b.heads
  pub subs-long : 256 ≤ length b.subs
  pub rows_long : 4096 ≤ length b.rows
  pub own-long : 20 ≤ length b.own
  pub scratch-long : length scratch ≡ 545
  pub sound : Sounds b

-- there is room for what it sends
abbrev pub Roomy : RanLetters → ℕ → List Row → Type 0
Roomy q sent events = sent + length q.events ≤ length events

-- the calls that the destination at a place has used, if it is open
abbrev pub calls_at : ℕ → StationBuffers → ℕ
calls_at j b = (view (part j b)).calls_used

-- a destination's part is as it was, or it is open and has used more calls
pub record OnwardAt (b b' : StationBuffers) (j : ℕ) : Type 0 where
  pub never-fewer : calls_at j b ≤ calls_at j b'
  pub as_it_was : calls_at j b' ≡ calls_at j b → part j b' ≡ part j b
  pub not-open : is_open j b ≡ false → part j b' ≡ part j b

-- what running letters leaves, where q is what its definition gives
pub record RunsLetters (q : RanLetters) (b b' : StationBuffers) (events events' : List Row) (sent sent' lost' : ℕ) : Type 0 where
  pub shows : shown_with b' lost' ≡ q.station
  pub count : sent' ≡ sent + length q.events
  pub first : take sent' events' ≡ take sent events ++ map sent_words q.events
  pub later : drop sent' events' ≡ drop sent' events
  pub events-length : length events' ≡ length events
  pub leaves-sound : Sounds b'
  pub past : AllPast b b'
  pub own_same : b'.own ≡ b.own
  pub onward : (j : ℕ) → j < 8 → OnwardAt b b' j

-- the letters that the code has, as entries
abbrev pub letter_entries : List Row → List Entry
letter_entries ws = map entry_in ws

abbrev pub storing_on : ℕ → ℕ → ℕ → Row → Station → RanLetters
storing_on hops clock name w s = storing hops clock name (entry_in w) s

abbrev pub running_on : ℕ → ℕ → ℕ → List Row → Station → RanLetters
running_on hops clock name ws s = running hops clock name (letter_entries ws) s

-- where they are stored
abbrev pub place_on : ℕ → ℕ → ℕ → Row → Station → ℕ
place_on hops clock name w s = letter_place hops clock name (entry_in w) s

abbrev pub places_on : ℕ → ℕ → ℕ → List Row → Station → List ℕ
places_on hops clock name ws s = letter_places hops clock name (letter_entries ws) s

-- the last of some places; of none, this
abbrev pub last_of : ℕ → List ℕ → ℕ
last_of p [] = p
last_of p (x ∷ xs) = last_of x xs
