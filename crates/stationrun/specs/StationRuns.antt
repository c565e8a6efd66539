-- What a run of a station's call file prints, a call at a time, and what it leaves. Assumes nothing.
use Rattle.std.specs.Prelude.{ℕ, ◌/◌, ◌%◌, ◌≤◌, ◌≡◌, Bool, true, false, not, ◌&&◌, List, ◌++◌, map, eqb, ltb, length, set, drop, replicate}
use Rattle.definition.specs.Base.{whether◌then◌else◌, every, up_from}
use Rattle.definition.specs.Words.{at}
use Rattle.definition.specs.Layout.{Row}
use Rattle.definition_station.specs.Types.{Station}
use Rattle.definition_station.specs.Station.{StationLengths, station_short, StationResult, station_refused, station_start, not_there, station_step}
use Rattle.definition_station.specs.Layout.{StationBuffers, part_formed, station_view, sent_words}
use Rattle.definition_station.specs.Called.{StationPast, own_opened, own_called, own_started}
use Rattle.calls.specs.declared.Call.{Call}
use Rattle.callfile.specs.Lines.{call_line}
use Rattle.stationlines.specs.StationLines.{sent_rows_text}
use Rattle.engine.specs.declared.Outcome.{Outcome}
use Rattle.engine.specs.Called.{outcome}
use Rattle.running.specs.Running.{Doing}

-- ---- a call

-- what a call finds: of each place whether its mark is one and, where it is open, its counts fit its tables; the station; its own words; the event list
pub record LentStation : Type 0 where
  pub fits : List Bool
  pub station : Station
  pub own : List ℕ
  pub events : List Row

abbrev pub station_by : StationBuffers → List Row → LentStation
station_by b events = record { fits = map (part_formed b) (up_from 0 8); station = station_view b; own = b.own; events = events }

-- word 0 of a call is its code and 256 times its destination's number
abbrev pub file_code : Call → ℕ
file_code c = c.code % 256

abbrev pub file_place : Call → ℕ
file_place c = c.code / 256

-- the memory's limit, which is 0 until limits come (document 02 §14), and seven words that are not in use
abbrev pub no_words : List ℕ → Bool
no_words ws = eqb (at 0 ws) 0 && (eqb (at 1 ws) 0 && (eqb (at 2 ws) 0 && (eqb (at 3 ws) 0 && (eqb (at 4 ws) 0 && (eqb (at 5 ws) 0 && (eqb (at 6 ws) 0 && eqb (at 7 ws) 0))))))

-- a start: its number is 0, and so are its words
unfoldable pub start_on : StationLengths → ℕ → List ℕ → Station → StationResult
start_on l k ws s =
    whether station_short l then station_refused 1 s
    else whether ltb 7 k then station_refused 10 s
    else whether eqb k 0 && no_words ws then station_start l s
    else station_refused 3 s

-- any other: `buffer_station_step`, by what it finds
unfoldable pub station_on : StationLengths → ℕ → ℕ → List ℕ → LentStation → StationResult
station_on l k code ws s =
    whether not (station_short l) && (not (not_there k code s.station) && (not (eqb code 0) && not (every s.fits))) then station_refused 2 s.station
    else station_step l k code ws s.station

-- what a call of a file gets: code 16 is a start
unfoldable pub file_call : StationLengths → Call → LentStation → StationResult
file_call l c s =
    whether eqb (file_code c) 16 then start_on l (file_place c) c.words s.station
    else station_on l (file_place c) (file_code c) c.words s

-- whether it is accepted
abbrev pub taken_by : StationResult → Bool
taken_by r = eqb r.refusal 0

-- what fits after an accepted call: an open looks at its own place alone, and any other call leaves all so
abbrev pub fits_after : Call → List Bool → List Bool
fits_after c fs = whether eqb (file_code c) 0 then set fs (file_place c) true else replicate 8 true

-- the own words after it
abbrev pub own_words_after : Call → StationResult → List ℕ → List ℕ
own_words_after c r own =
    whether eqb (file_code c) 16 then own_started own
    else whether eqb (file_code c) 0 then own_opened (file_place c) c.words own
    else own_called r.station own

-- what a call leaves: a refused one everything, an accepted one its events first in the list
abbrev pub left_station : Call → StationResult → LentStation → LentStation
left_station c r s = record {
  fits = whether taken_by r then fits_after c s.fits else s.fits;
  station = r.station;
  own = whether taken_by r then own_words_after c r s.own else s.own;
  events = map sent_words r.events ++ drop (length r.events) s.events;
}

-- its line, and those of its events
unfoldable pub station_lines : ℕ → StationResult → List ℕ
station_lines index r = call_line index r.refusal r.answer ++ sent_rows_text (map sent_words r.events)

-- a run does this with each
unfoldable pub station_call : StationLengths → Doing LentStation
station_call l index c s = let r = file_call l c s in record { text = station_lines index r; changed = taken_by r; lent = left_station c r s }

-- ---- in lent buffers

abbrev pub outcome_from : StationResult → Outcome
outcome_from r = outcome r.refusal r.answer (length r.events)

-- until a call is accepted the buffers are as they were; what is no part of the eight destinations stays. Open in a state that has changed, and no line
-- depends on it: the words that are not in use, as `StationCalled` of `definition_station` names them
pub record StationKeeps (changed : Bool) (b b' : StationBuffers) (events events' : List Row) : Type 0 where
  pub kept : changed ≡ false → b' ≡ b
  pub past : StationPast b b'
  pub own-length : length b'.own ≡ length b.own
  pub events-length : length events' ≡ length events

-- after a call
pub record FileCalled (q : StationResult) (c : Call) (b b' : StationBuffers) (events events' : List Row) : Type 0 where
  pub few : length q.events ≤ 4872
  pub shows : station_by b' events' ≡ left_station c q (station_by b events)
  pub left : StationKeeps (taken_by q) b b' events events'
