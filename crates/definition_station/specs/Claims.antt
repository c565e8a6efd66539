-- What is claimed of stations and of the sends of station calls; `Orders` has the claim on orders, `Refusals` that on refusals. Assumes nothing.
use Rattle.std.specs.Prelude.{ℕ, ◌+◌, ◌≤◌, ◌≡◌, Bool, true, false, List, [], ◌∷◌, map, ℤ, length}
use Rattle.std.proofs.Math.Option.{none, some}
use Rattle.definition.specs.Types.{Entry, Event, letter, message, null, Dest}
use Rattle.definition.specs.Calls.{Call}
use Rattle.definition.specs.Words.{decode, step}
use Rattle.definition.specs.Orders.{Reached}
use Rattle.definition.specs.Layout.{Row, view, sound_buffers, lengths_of, buffer_step}
use Rattle.definition_station.specs.Types.{StationSlot, Station, started, slot_of, put_slot}
use Rattle.definition_station.specs.Letters.{rejected, number_letters, whole, storing, running, hops_max, one_by_one}
use Rattle.definition_station.specs.Station.{StationLengths, station_short, station_sound, station_start, station_step, station_uncoded}
use Rattle.definition_station.specs.Layout.{StationBuffers, part, station_view, sound_station, station_lengths_of}
use Rattle.definition_station.specs.Called.{own_started}
use Rattle.definition_station.specs.Orders.{ReachedStation}

-- "Starting a station needs no sound state and leaves none open", and what it leaves is sound
pub record Starts (s : Station) : Type 0 where
  pub leaves-sound : station_sound s ≡ true
  pub none_open : (k : ℕ) → slot_of k s ≡ none
  pub first : s.next ≡ 1

abbrev pub StartedSound : Type 0
StartedSound = (lent : StationLengths) (s : Station) → (station_start lent s).refusal ≡ 0 → Starts (station_start lent s).station

-- every accepted call but open leaves a sound station (2 has refused one that is not)
abbrev pub StationLeavesSound : Type 0
StationLeavesSound =
    (lent : StationLengths) (k code : ℕ) (words : List ℕ) (s : Station)
    → 1 ≤ code
    → (station_step lent k code words s).refusal ≡ 0
    → station_sound (station_step lent k code words s).station ≡ true

-- an accepted open leaves one where the station was sound apart from that place
abbrev pub OpenLeavesSound : Type 0
OpenLeavesSound =
    (lent : StationLengths) (k : ℕ) (words : List ℕ) (s : Station)
    → station_sound (put_slot k none s) ≡ true
    → (station_step lent k 0 words s).refusal ≡ 0
    → station_sound (station_step lent k 0 words s).station ≡ true

-- so do the two calls that have no code
abbrev pub UncodedLeavesSound : Type 0
UncodedLeavesSound = (lent : StationLengths) (k : ℕ) (c : Call) (s : Station) → (station_uncoded lent k c s).refusal ≡ 0 → station_sound (station_uncoded lent k c s).station ≡ true

-- a station as accepted calls left it is sound
abbrev pub ReachedStationSound : Type 0
ReachedStationSound = (cleared : ℕ → Bool) (s : Station) → ReachedStation cleared s → station_sound s ≡ true

-- and each of its open destinations is one that document 01's accepted calls leave, so that every claim on those holds of it
abbrev pub PlacesReached : Type 0
PlacesReached = (cleared : ℕ → Bool) (s : Station) → ReachedStation cleared s → (j : ℕ) (x : StationSlot) → slot_of j s ≡ some x → Reached (cleared j) x.dest

-- no station call sends more than 4,872 events
abbrev pub StationSends : Type 0
StationSends = (lent : StationLengths) (k code : ℕ) (words : List ℕ) (s : Station) → length (station_step lent k code words s).events ≤ 4872

abbrev pub UncodedSends : Type 0
UncodedSends = (lent : StationLengths) (k : ℕ) (c : Call) (s : Station) → length (station_uncoded lent k c s).events ≤ 4872

-- what the `x` events of a call say, in their order
abbrev pub letters_in : List Event → List (ℕ × ℤ)
letters_in [] = []
letters_in (letter q r c ∷ es) = (q, r) ∷ letters_in es
letters_in (message i q r ∷ es) = letters_in es
letters_in (null i ∷ es) = letters_in es

-- the dead letters of an accepted call are those of its `x` events, in their order
abbrev pub LettersSent : Type 0
LettersSent =
    (code : ℕ) (words : List ℕ) (t : Dest)
    → 1 ≤ code
    → (step whole code words t).refusal ≡ 0
    → letters_in (step whole code words t).events ≡ map (λ e. (e.seq, e.redelivery)) (rejected t (decode code words))

-- numbering all dead letters and then running them is taking them one after another
abbrev pub OneByOne : Type 0
OneByOne = (now k : ℕ) (es : List Entry) (s : Station) → one_by_one now k es s ≡ (let n = number_letters es s in running hops_max now k n.letters n.station)

-- more than eight hops change nothing, so it is all one whether the first attempt is counted as a hop
abbrev pub EightAreEnough : Type 0
EightAreEnough = (more now k : ℕ) (e : Entry) (s : Station) → station_sound s ≡ true → storing (hops_max + more) now k e s ≡ storing hops_max now k e s

-- ---- on buffers

-- the own words that a start leaves show the station that it leaves, whatever else the buffers hold
abbrev pub StartShows : Type 0
StartShows = (heads : List ℕ) (subs rows : List Row) (own : List ℕ) → let b : StationBuffers = record { heads = heads; subs = subs; rows = rows; own = own_started own } in (station_view b ≡ started) × (sound_station b ≡ true)

-- sound buffers show a sound station, and each open part of them is one that a destination's own call takes, on exactly its lengths
abbrev pub PartsAreSound : Type 0
PartsAreSound =
    (b : StationBuffers) (events k : ℕ) (x : StationSlot)
    → station_short (station_lengths_of b events) ≡ false
    → sound_station b ≡ true
    → slot_of k (station_view b) ≡ some x
    → (sound_buffers (part k b) ≡ true) × (view (part k b) ≡ x.dest) × (lengths_of (part k b) 545 ≡ whole)

-- so a destination's own call on its part is the one that the station makes
abbrev pub PartIsCalled : Type 0
PartIsCalled =
    (b : StationBuffers) (events k : ℕ) (x : StationSlot)
    → station_short (station_lengths_of b events) ≡ false
    → sound_station b ≡ true
    → slot_of k (station_view b) ≡ some x
    → (code : ℕ) (words : List ℕ) → buffer_step (part k b) 545 code words ≡ step whole code words x.dest
