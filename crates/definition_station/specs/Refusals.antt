-- Document 01's table "Refused, by place of checking" with §1's places, for station calls, and that a refusal's number comes exactly from it.
-- Assumes nothing.
use Rattle.std.specs.Prelude.{ℕ, ◌≡◌, Bool, true, false, not, ◌&&◌, List, [], ◌∷◌, eqb, drop}
use Rattle.std.proofs.Math.Option.{Option, none, some}
use Rattle.definition.specs.Base.{whether◌then◌else◌}
use Rattle.definition.specs.Calls.{discarding, missing}
use Rattle.definition.specs.Refusals.{CheckPlace, ◌when◌, arguments_right, table, Exact}
use Rattle.definition_station.specs.Types.{StationSlot, Station, slot_of}
use Rattle.definition_station.specs.Layout.{StationBuffers, station_view, sound_station, station_lengths_of, buffer_station_step, buffer_station_uncoded}
use Rattle.definition_station.specs.Station.{StationLengths, station_short, station_sound, StationResult, station_start, station_step, station_uncoded, not_there, opens_right, carries_number, carried}

-- an open's words are an open's, its dead-letter name 0 to 8; a direct enqueue carries no number, and one is left; the rest as of a destination
abbrev pub station_arguments : ℕ → List ℕ → Station → Bool
station_arguments code ws s = whether eqb code 0 then opens_right ws else not (carries_number code ws) && arguments_right code (carried code ws s)

-- the places after 3 (9, 4, 14, 5, 6, 7, 5, 8, 8) of the destination's own table
abbrev pub own_places : ℕ → List ℕ → Option StationSlot → List CheckPlace
own_places code ws none = []
own_places code ws (some x) = drop 3 (table false true code ws x.dest)

abbrev pub station_places : StationLengths → ℕ → ℕ → List ℕ → Station → List CheckPlace
station_places lent k code ws s =
    -- every call, buffers: a state buffer is short, or an event list holds under 4,872
    1 when station_short lent
    -- "after 1 and before 2, a number above 7 or, open apart, one not open"
    ∷ 10 when not_there k code s
    -- every call but open, state: the station is not sound
    ∷ 2 when (not (eqb code 0) && not (station_sound s))
    -- every call, arguments
    ∷ 3 when not (station_arguments code ws s)
    -- then the destination's own
    ∷ own_places code (carried code ws s) (slot_of k s)

-- a refused call answers 0, sends nothing and changes nothing
pub record StationRefuses (r : StationResult) (ps : List CheckPlace) (s : Station) : Type 0 where
  pub exact : Exact r.refusal ps
  pub answer : (r.refusal ≡ 0 → ⊥) → r.answer ≡ 0
  pub events : (r.refusal ≡ 0 → ⊥) → r.events ≡ []
  pub station : (r.refusal ≡ 0 → ⊥) → r.station ≡ s

-- of every station call, open too
abbrev pub StationStepRefuses : Type 0
StationStepRefuses = (lent : StationLengths) (k code : ℕ) (words : List ℕ) (s : Station) → StationRefuses (station_step lent k code words s) (station_places lent k code words s) s

-- of a start: 1 alone
abbrev pub StartRefuses : Type 0
StartRefuses = (lent : StationLengths) (s : Station) → StationRefuses (station_start lent s) (1 when station_short lent ∷ []) s

-- the two calls that have no code
abbrev pub uncoded_own : Option StationSlot → List CheckPlace
uncoded_own none = []
uncoded_own (some x) = 9 when eqb x.dest.calls_used x.dest.call_limit ∷ []

abbrev pub uncoded_station_places : StationLengths → ℕ → Station → List CheckPlace
uncoded_station_places lent k s = 1 when station_short lent ∷ 10 when not_there k 1 s ∷ 2 when not (station_sound s) ∷ uncoded_own (slot_of k s)

abbrev pub UncodedStationRefuses : Type 0
UncodedStationRefuses = (lent : StationLengths) (k : ℕ) (s : Station) →
    StationRefuses (station_uncoded lent k discarding s) (uncoded_station_places lent k s) s × StationRefuses (station_uncoded lent k missing s) (uncoded_station_places lent k s) s

-- ---- and on buffers: 2 is for a mark that is neither 0 nor 1 and for counts and words of an open part that do not fit, too

abbrev pub buffer_station_places : StationBuffers → ℕ → ℕ → ℕ → List ℕ → List CheckPlace
buffer_station_places b events k code ws =
    let s = station_view b in
    1 when station_short (station_lengths_of b events)
    ∷ 10 when not_there k code s
    ∷ 2 when (not (eqb code 0) && not (sound_station b))
    ∷ 3 when not (station_arguments code ws s)
    ∷ own_places code (carried code ws s) (slot_of k s)

abbrev pub BufferStationRefuses : Type 0
BufferStationRefuses = (b : StationBuffers) (events k code : ℕ) (words : List ℕ) → StationRefuses (buffer_station_step b events k code words) (buffer_station_places b events k code words) (station_view b)

abbrev pub buffer_uncoded_station_places : StationBuffers → ℕ → ℕ → List CheckPlace
buffer_uncoded_station_places b events k =
    let s = station_view b in
    1 when station_short (station_lengths_of b events) ∷ 10 when not_there k 1 s ∷ 2 when not (sound_station b) ∷ uncoded_own (slot_of k s)

abbrev pub BufferUncodedStationRefuses : Type 0
BufferUncodedStationRefuses = (b : StationBuffers) (events k : ℕ) →
    StationRefuses (buffer_station_uncoded b events k discarding) (buffer_uncoded_station_places b events k) (station_view b)
    × StationRefuses (buffer_station_uncoded b events k missing) (buffer_uncoded_station_places b events k) (station_view b)
