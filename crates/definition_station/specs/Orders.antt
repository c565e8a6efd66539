-- Calls that change places, on a station: what document 02, §1 asks of a list of codes 4 to 7 that makes no dead letter. Assumes nothing.
use Rattle.std.specs.Prelude.{ℕ, ◌-◌, ◌≤◌, ◌≡◌, Bool, true, false, not, ◌&&◌, ◌||◌, List, [], ◌∷◌, eqb, length}
use Rattle.std.proofs.Math.Option.{some}
use Rattle.definition.specs.Base.{whether◌then◌else◌, keep, all, is_some}
use Rattle.definition.specs.Types.{Id, Event, letter, message, null}
use Rattle.definition.specs.Consumer.{same_id}
use Rattle.definition.specs.Destination.{sub_of}
use Rattle.definition.specs.Calls.{discarding, missing}
use Rattle.definition.specs.Words.{id_in}
use Rattle.definition.specs.Orders.{Qualifies}
use Rattle.definition.specs.Runs.{run, end}
use Rattle.definition_station.specs.Types.{StationSlot, Station, slot_of, StationEvent}
use Rattle.definition_station.specs.Station.{StationLengths, StationResult, station_start, station_step, station_uncoded}

-- whether a destination's calls since its latest open have a clear among them: an open of the place begins anew
abbrev pub cleared_by : ℕ → ℕ → (ℕ → Bool) → ℕ → Bool
cleared_by k code cleared j = whether eqb j k then not (eqb code 0) && (eqb code 10 || cleared j) else cleared j

-- as accepted calls left it, from the station's start on; for each destination, whether a clear is among its calls since its latest open
pub data ReachedStation : (ℕ → Bool) → Station → Type 0 where
  starting : (lent : StationLengths) (s : Station) → (station_start lent s).refusal ≡ 0 → ReachedStation (λ j. false) (station_start lent s).station
  going : {cleared : ℕ → Bool} {s : Station} (lent : StationLengths) (k code : ℕ) (words : List ℕ) → ReachedStation cleared s → (station_step lent k code words s).refusal ≡ 0 →
      ReachedStation (cleared_by k code cleared) (station_step lent k code words s).station
  -- the two that have no code, and are no clear
  discards : {cleared : ℕ → Bool} {s : Station} (lent : StationLengths) (k : ℕ) → ReachedStation cleared s → (station_uncoded lent k discarding s).refusal ≡ 0 → ReachedStation (cleared_by k 1 cleared) (station_uncoded lent k discarding s).station
  misses : {cleared : ℕ → Bool} {s : Station} (lent : StationLengths) (k : ℕ) → ReachedStation cleared s → (station_uncoded lent k missing s).refusal ≡ 0 → ReachedStation (cleared_by k 1 cleared) (station_uncoded lent k missing s).station

-- one call of the list: its destination's number, its code, its eight words, and the lengths of what it is lent
pub record StationCall : Type 0 where
  pub place : ℕ
  pub code : ℕ
  pub words : List ℕ
  pub lengths : StationLengths

-- what it gets
pub record StationReply : Type 0 where
  pub refusal : ℕ
  pub answer : ℕ
  pub events : List StationEvent

abbrev pub station_result : StationCall → Station → StationResult
station_result c s = station_step c.lengths c.place c.code c.words s

abbrev pub station_reply : StationCall → Station → StationReply
station_reply c s = record { refusal = (station_result c s).refusal; answer = (station_result c s).answer; events = (station_result c s).events }

abbrev pub station_left : StationCall → Station → Station
station_left c s = (station_result c s).station

-- the calls on one destination, and those of one consumer there, with what they got
abbrev pub calls_on : ℕ → List StationCall → List StationCall
calls_on j l = keep (λ c. eqb c.place j) l

abbrev pub own_call : ℕ → Id → StationCall → Bool
own_call j i c = eqb c.place j && same_id (id_in c.words) i

abbrev pub calls_by : ℕ → Id → List StationCall → List StationCall
calls_by j i l = keep (own_call j i) l

abbrev pub replies_by : ℕ → Id → List (StationCall × StationReply) → List (StationCall × StationReply)
replies_by j i l = keep (λ r. own_call j i r.0) l

-- each has a code from 4 to 7, the number of an open destination that qualifies (any topic, or any queue never cleared with nothing waiting), and the
-- ID of a consumer present there; its other words are any
pub record StandsAt (cleared : ℕ → Bool) (s : Station) (c : StationCall) : Type 0 where
  pub low : 4 ≤ c.code
  pub high : c.code ≤ 7
  pub slot : StationSlot
  pub opened : slot_of c.place s ≡ some slot
  pub qualifies : Qualifies (cleared c.place) slot.dest
  pub there : is_some (sub_of (id_in c.words) slot.dest) ≡ true

abbrev pub AllStand : (ℕ → Bool) → Station → List StationCall → Type 0
AllStand cleared s [] = Unit {0}
AllStand cleared s (c ∷ cs) = StandsAt cleared s c × AllStand cleared s cs

-- for each destination, no more calls than it has left
abbrev pub CallsLeft : Station → List StationCall → Type 0
CallsLeft s l = (j : ℕ) (x : StationSlot) → slot_of j s ≡ some x → length (calls_on j l) ≤ x.dest.call_limit - x.dest.calls_used

-- each consumer's own calls keep their order
abbrev pub SameCalls : List StationCall → List StationCall → Type 0
SameCalls l m = (j : ℕ) (i : Id) → calls_by j i l ≡ calls_by j i m

-- an `x`: a dead letter is made
abbrev pub is_dead_letter : Event → Bool
is_dead_letter (letter q r c) = true
is_dead_letter (message i q r) = false
is_dead_letter (null i) = false

abbrev pub makes_none : StationReply → Bool
makes_none r = all (λ e. not (is_dead_letter e.event)) r.events

-- no call of the list, made in this order, makes a dead letter
abbrev pub NoLetters : List StationCall → Station → Type 0
NoLetters l s = all (λ r. makes_none r.1) (run station_reply station_left l s) ≡ true

-- each call gets the same refusal, answer and events, and the two runs end in the same station
pub record SameStationRuns (l m : List StationCall) (s : Station) : Type 0 where
  pub replies : (j : ℕ) (i : Id) → replies_by j i (run station_reply station_left l s) ≡ replies_by j i (run station_reply station_left m s)
  pub stations : end station_left l s ≡ end station_left m s

-- "A list of calls may still be reordered if none of them makes a dead letter in any order."
abbrev pub StationReordering : Type 0
StationReordering =
    (cleared : ℕ → Bool) (s : Station)
    -- "as accepted calls left it"
    → ReachedStation cleared s
    → (l m : List StationCall)
    -- "its calls are codes 4 to 7, each with a present ID and otherwise any arguments", "on any topic, or any never-cleared queue with nothing waiting"
    → AllStand cleared s l
    -- "calls left: call limit less calls used", of each destination
    → CallsLeft s l
    -- "as long as each consumer's own calls keep their order"
    → SameCalls l m
    -- "if none of them makes a dead letter in any order"
    → ((n : List StationCall) → SameCalls l n → NoLetters n s)
    -- "same refusals, answers, sends and final state"
    → SameStationRuns l m s

-- the same where it is only known that none makes one in the order of l; and then none does in the order of m
abbrev pub OneOrderIsEnough : Type 0
OneOrderIsEnough =
    (cleared : ℕ → Bool) (s : Station)
    → ReachedStation cleared s
    → (l m : List StationCall)
    → AllStand cleared s l
    → CallsLeft s l
    → SameCalls l m
    → NoLetters l s
    → SameStationRuns l m s × NoLetters m s
