-- A station in lent buffers: what one destination is lent (definition's `Layout`) eight times over, and the station's own words. Own words 0 to 7 are the
-- open marks, 8 to 15 the dead-letter names, 16 the next number, 17 the lost count. Of the part of a destination that is not open, and of its name,
-- nothing is asked. Assumes nothing.
use Rattle.std.specs.Prelude.{ℕ, ◌+◌, ◌*◌, Bool, not, ◌&&◌, ◌||◌, List, ◌∷◌, map, eqb, length, drop}
use Rattle.std.proofs.Math.Option.{Option, none, some}
use Rattle.std.proofs.Math.Seq.{slice}
use Rattle.definition.specs.Base.{whether◌then◌else◌, all, up_from}
use Rattle.definition.specs.Calls.{Call}
use Rattle.definition.specs.Words.{at}
use Rattle.definition.specs.Layout.{Row, Buffers, flag, is_mark, view, formed, event_words}
use Rattle.definition_station.specs.Types.{StationSlot, Station, StationEvent}
use Rattle.definition_station.specs.Station.{StationLengths, station_short, station_sound, StationResult, station_refused, not_there, station_step, station_uncoded}

-- the state that a caller lends: eight heads of 8,347 words, eight tables of 32 consumers, eight of 512 rows, and the own words
pub record StationBuffers : Type 0 where
  pub heads : List ℕ
  pub subs : List Row
  pub rows : List Row
  pub own : List ℕ

-- what one destination has of them, exactly as long as its tables
unfoldable pub part : ℕ → StationBuffers → Buffers
part k b = record {
  head = slice (k * 8347) (k * 8347 + 8347) b.heads;
  subs = slice (k * 32) (k * 32 + 32) b.subs;
  rows = slice (k * 512) (k * 512 + 512) b.rows;
}

-- the places of the own words
abbrev pub name_word : ℕ → ℕ
name_word k = 8 + k

abbrev pub next_word : ℕ
next_word = 16

abbrev pub lost_word : ℕ
lost_word = 17

abbrev pub is_open : ℕ → StationBuffers → Bool
is_open k b = flag (at k b.own)

-- ---- what they hold

unfoldable pub slot_at : StationBuffers → ℕ → Option StationSlot
slot_at b k = whether is_open k b then some (record { dest = view (part k b); name = at (name_word k) b.own }) else none

unfoldable pub station_view : StationBuffers → Station
station_view b = record { slots = map (slot_at b) (up_from 0 8); next = at next_word b.own; lost = at lost_word b.own }

-- ---- sound

-- an open mark is 0 or 1, and where it is set the part's counts fit its tables and its words are strict
unfoldable pub part_formed : StationBuffers → ℕ → Bool
part_formed b k = is_mark (at k b.own) && (not (is_open k b) || formed (part k b))

unfoldable pub station_formed : StationBuffers → Bool
station_formed b = all (part_formed b) (up_from 0 8)

-- refusal 2 is for buffers that are not sound
unfoldable pub sound_station : StationBuffers → Bool
sound_station b = station_formed b && station_sound (station_view b)

-- ---- events

-- the six words of an event: "each event names its destination", by 256 times its number, added to the first word of a destination's event
abbrev pub sent_words : StationEvent → Row
sent_words e = (at 0 (event_words e.event) + 256 * e.place) ∷ drop 1 (event_words e.event)

-- ---- a call on lent buffers

abbrev pub station_lengths_of : StationBuffers → ℕ → StationLengths
station_lengths_of b events = record { head = length b.heads; subs = length b.subs; rows = length b.rows; own = length b.own; events = events }

-- whether 2 stops a call for what `station_view` does not show: it comes after 1 and 10, and an open needs no sound state
abbrev pub unformed : StationBuffers → ℕ → ℕ → ℕ → Bool
unformed b events k code = not (station_short (station_lengths_of b events)) && (not (not_there k code (station_view b)) && (not (eqb code 0) && not (station_formed b)))

-- what a station call gets, with an event list of so many events, and the station that it leaves
unfoldable pub buffer_station_step : StationBuffers → ℕ → ℕ → ℕ → List ℕ → StationResult
buffer_station_step b events k code ws =
    whether unformed b events k code then station_refused 2 (station_view b)
    else station_step (station_lengths_of b events) k code ws (station_view b)

-- what one of the two calls without a code gets
unfoldable pub buffer_station_uncoded : StationBuffers → ℕ → ℕ → Call → StationResult
buffer_station_uncoded b events k c =
    whether unformed b events k 1 then station_refused 2 (station_view b)
    else station_uncoded (station_lengths_of b events) k c (station_view b)

-- opens the definitions of this file
unfoldable pub station_layout_open : Unit {0}
unfolding part slot_at station_view part_formed station_formed sound_station buffer_station_step buffer_station_uncoded
station_layout_open = tt
