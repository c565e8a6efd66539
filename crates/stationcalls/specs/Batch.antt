-- Many calls on one lent station, one after another. Assumes nothing.
use Rattle.std.specs.Prelude.{◌≡◌, Bool, true, not, ◌&&◌, List, [], ◌∷◌, ◌++◌, map, ℕ, zero, suc, ◌-◌, ◌/◌, ◌%◌, ◌<◌, eqb, length, take, drop}
use Rattle.definition.specs.Base.{whether◌then◌else◌, all}
use Rattle.definition.specs.Words.{at}
use Rattle.definition.specs.Layout.{Row}
use Rattle.engine.specs.declared.batch.Done.{Done}
use Rattle.engine.specs.Batch.{eight_words, refusing}
use Rattle.definition_station.specs.Types.{Station, slot_of}
use Rattle.definition_station.specs.Station.{StationLengths, station_short, StationResult, station_step}
use Rattle.definition_station.specs.Layout.{StationBuffers, part, station_view, sound_station, sent_words, station_lengths_of}
use Rattle.definition_station.specs.Called.{StationPast, own_opened, own_called}

-- ---- a call of a list

-- word 0 is its code and 256 times its destination's number, as in a station's call file
abbrev pub listed_code : Row → ℕ
listed_code w = at 0 w % 256

abbrev pub listed_place : Row → ℕ
listed_place w = at 0 w / 256

abbrev pub listed_step : StationLengths → Row → Station → StationResult
listed_step l w s = station_step l (listed_place w) (listed_code w) (eight_words w) s

-- the own words after it, as `StationCalled` has them
abbrev pub own_listed : Row → StationResult → List ℕ → List ℕ
own_listed w r own =
    whether eqb r.refusal 0 then (whether eqb (listed_code w) 0 then own_opened (listed_place w) (eight_words w) own else own_called r.station own)
    else own

-- it is no open of this destination
abbrev pub opens_not : ℕ → Row → Bool
opens_not j w = not (eqb (listed_code w) 0 && eqb (listed_place w) j)

-- ---- many

-- the outcomes (refusal, answer, how many events), the words of all events one after another, the station and its own words
pub record StationBatch : Type 0 where
  pub outcomes : List Row
  pub events : List Row
  pub station : Station
  pub own : List ℕ

abbrev pub station_undone : Station → List ℕ → StationBatch
station_undone s own = record { outcomes = []; events = []; station = s; own = own }

abbrev pub station_outcome : StationResult → Row
station_outcome r = r.refusal ∷ r.answer ∷ length r.events ∷ []

-- a call, and then the others
abbrev pub station_followed : StationResult → StationBatch → StationBatch
station_followed r q = record { outcomes = station_outcome r ∷ q.outcomes; events = map sent_words r.events ++ q.events; station = q.station; own = q.own }

-- with so many places for events fewer
abbrev pub fewer_events : ℕ → StationLengths → StationLengths
fewer_events k l = record { head = l.head; subs = l.subs; rows = l.rows; own = l.own; events = l.events - k }

-- calls of a list, each lent what is left of the event list: up to the last call, the last place for an outcome, or the first call that would be
-- refused with 1
unfoldable pub station_batch : StationLengths → ℕ → List Row → Station → List ℕ → StationBatch
station_batch l places [] s own = station_undone s own
station_batch l zero (w ∷ ws) s own = station_undone s own
station_batch l (suc n) (w ∷ ws) s own =
    let r = listed_step l w s in
    whether station_short l then station_undone s own else station_followed r (station_batch (fewer_events (length r.events) l) n ws r.station (own_listed w r own))

-- on lent buffers: where they are not sound, none
unfoldable pub buffer_station_batch : StationBuffers → ℕ → ℕ → List Row → StationBatch
buffer_station_batch b events places ws = whether sound_station b then station_batch (station_lengths_of b events) places ws (station_view b) b.own else station_undone (station_view b) b.own

-- outcomes, events, station and own words are q's, and what stands past them is as it was; a sound station stays sound, and where every call was refused the
-- buffers are as they were. A destination that is not opened among the calls and shows what it showed has its part word for word as it
-- was. Of the other parts what `StationCalled` leaves open is open here.
pub record StationBatched (q : StationBatch) (words : List Row) (b b' : StationBuffers) (events events' outcomes outcomes' : List Row) (r : Done) : Type 0 where
  pub calls : r.calls ≡ length q.outcomes
  pub count : r.events ≡ length q.events
  pub told : take r.calls outcomes' ≡ q.outcomes
  pub untold : drop r.calls outcomes' ≡ drop r.calls outcomes
  pub sent : take r.events events' ≡ q.events
  pub later : drop r.events events' ≡ drop r.events events
  pub shows : station_view b' ≡ q.station
  pub own_is : b'.own ≡ q.own
  pub leaves-sound : sound_station b ≡ true → sound_station b' ≡ true
  pub kept : all refusing q.outcomes ≡ true → b' ≡ b
  pub elsewhere : (j : ℕ) → j < 8 → all (opens_not j) (take r.calls words) ≡ true → slot_of j q.station ≡ slot_of j (station_view b) → part j b' ≡ part j b
  pub past : StationPast b b'
  pub events-length : length events' ≡ length events
  pub outcomes-length : length outcomes' ≡ length outcomes
