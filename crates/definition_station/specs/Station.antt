-- Station calls (document 02, §1): what a sound station is, and what a call gets and leaves. Assumes nothing.
use Rattle.std.specs.Prelude.{ℕ, ◌*◌, ◌^◌, Bool, true, not, ◌&&◌, ◌||◌, List, [], ◌∷◌, ◌++◌, leb, ltb, eqb, length, set, drop}
use Rattle.std.proofs.Math.Option.{Option, none, some}
use Rattle.definition.specs.Base.{whether◌then◌else◌, all, every, is_some}
use Rattle.definition.specs.Types.{Entry, Dest}
use Rattle.definition.specs.Calls.{Result, sound, Call, call}
use Rattle.definition.specs.Words.{at, open_words, opened_by, decode, step}
use Rattle.definition_station.specs.Types.{StationSlot, Station, started, slot_of, put_slot, put_dest, took_number, StationEvent, sent_at}
use Rattle.definition_station.specs.Letters.{rejected, clock_of, number_letters, whole, running, hops_max}

-- ---- lent buffers

-- how many words, consumers and rows the buffers of eight destinations hold, how many own words, and how many events
pub record StationLengths : Type 0 where
  pub head : ℕ
  pub subs : ℕ
  pub rows : ℕ
  pub own : ℕ
  pub events : ℕ

-- the station's own words: eight open marks, eight names, next, lost; and two that the memory's limit and its flag take (document 02 §14)
abbrev pub own_words : ℕ
own_words = 20

-- "A station call wants an event list of 4,872"
abbrev pub station_events : ℕ
station_events = 4872

-- refusal 1: a state buffer is short, or the event list is
unfoldable pub station_short : StationLengths → Bool
station_short l = ltb l.head (8 * 8347) || (ltb l.subs (8 * 32) || (ltb l.rows (8 * 512) || (ltb l.own own_words || ltb l.events station_events)))

-- ---- sound

abbrev pub slot_sound : Option StationSlot → Bool
slot_sound none = true
slot_sound (some x) = sound x.dest && leb x.name 8

-- "A station is sound when its open destinations are and its own numbers are in range"
abbrev pub station_tests : Station → List Bool
station_tests s =
    eqb (length s.slots) 8
    ∷ all slot_sound s.slots
    ∷ leb 1 s.next
    ∷ leb s.next (2 ^ 63)
    ∷ ltb s.lost (2 ^ 63)
    ∷ []

unfoldable pub station_sound : Station → Bool
station_sound s = every (station_tests s)

-- ---- calls

-- the refusal (0: accepted), the answer, the events with their destinations, and the station
pub record StationResult : Type 0 where
  pub refusal : ℕ
  pub answer : ℕ
  pub events : List StationEvent
  pub station : Station

abbrev pub station_refused : ℕ → Station → StationResult
station_refused n s = record { refusal = n; answer = 0; events = []; station = s }

-- "Starting a station needs no sound state and leaves none open"
unfoldable pub station_start : StationLengths → Station → StationResult
station_start lent s = whether station_short lent then station_refused 1 s else record { refusal = 0; answer = 0; events = []; station = started }

-- an open's words, its dead-letter name (word 6, 0 to 8) apart
abbrev pub opening_words : List ℕ → List ℕ
opening_words ws = set ws 6 0

abbrev pub opens_right : List ℕ → Bool
opens_right ws = open_words (opening_words ws) && leb (at 6 ws) 8

abbrev pub opened_slot : List ℕ → StationSlot
opened_slot ws = record { dest = opened_by (opening_words ws); name = at 6 ws }

unfoldable pub open_at : ℕ → List ℕ → Station → StationResult
open_at k ws s =
    whether opens_right ws then record { refusal = 0; answer = 0; events = []; station = put_slot k (some (opened_slot ws)) s }
    else station_refused 3 s

-- "Direct enqueues take station numbers too, and carry none": their word 0 is 0, and the next number stands there for the destination.
-- (2^63 is no sequence number: "with no number left they get 3".)
abbrev pub carried : ℕ → List ℕ → Station → List ℕ
carried code ws s = whether eqb code 1 then s.next ∷ drop 1 ws else ws

abbrev pub carries_number : ℕ → List ℕ → Bool
carries_number code ws = eqb code 1 && not (eqb (at 0 ws) 0)

-- what the destination's own call leaves of the station, before its dead letters are run; an accepted enqueue has taken its number
abbrev pub called : ℕ → ℕ → StationSlot → Dest → Station → Station
called k code x t s = whether eqb code 1 then took_number (put_dest k x t s) else put_dest k x t s

-- the call is accepted: its dead letters are numbered and run, from the name of its destination
unfoldable pub accepted_at : ℕ → ℕ → StationSlot → Result → List Entry → ℕ → Station → StationResult
accepted_at k code x r letters now s =
    let n = number_letters letters (called k code x r.dest s) in
    let ran = running hops_max now x.name n.letters n.station in
    record { refusal = 0; answer = r.answer; events = sent_at k r.events ++ ran.events; station = ran.station }

-- a call other than open, on the open destination x at the place k: the destination's own call, and then its dead letters
unfoldable pub call_on : ℕ → ℕ → List ℕ → Station → StationSlot → StationResult
call_on k code ws s x =
    let r = step whole code (carried code ws s) x.dest in
    let done = accepted_at k code x r (rejected x.dest (decode code (carried code ws s))) (clock_of (decode code (carried code ws s))) s in
    whether carries_number code ws then station_refused 3 s
    else whether eqb r.refusal 0 then done
    else station_refused r.refusal s

unfoldable pub station_call_at : ℕ → ℕ → List ℕ → Station → Option StationSlot → StationResult
station_call_at k code ws s none = station_refused 10 s
station_call_at k code ws s (some x) = call_on k code ws s x

-- "It refuses with 10, after 1 and before 2, a number above 7 or, open apart, one not open."
abbrev pub not_there : ℕ → ℕ → Station → Bool
not_there k code s = ltb 7 k || (not (eqb code 0) && not (is_some (slot_of k s)))

-- a station call: the lent buffers' lengths, the destination's number, the code and the eight words
unfoldable pub station_step : StationLengths → ℕ → ℕ → List ℕ → Station → StationResult
station_step lent k code ws s =
    whether station_short lent then station_refused 1 s
    else whether not_there k code s then station_refused 10 s
    else whether not (eqb code 0) && not (station_sound s) then station_refused 2 s
    else whether eqb code 0 then open_at k ws s
    else station_call_at k code ws s (slot_of k s)

-- one of the two calls that have no code, on the open destination x at the place k
unfoldable pub uncoded_at : ℕ → Call → Station → Option StationSlot → StationResult
uncoded_at k c s none = station_refused 10 s
uncoded_at k c s (some x) =
    let r = call whole c x.dest in
    let done : StationResult = record { refusal = 0; answer = r.answer; events = sent_at k r.events; station = put_dest k x r.dest s } in
    whether eqb r.refusal 0 then done else station_refused r.refusal s

-- `add_discarded` and `expired_before_storing` of a destination (`discarding`, `missing`)
unfoldable pub station_uncoded : StationLengths → ℕ → Call → Station → StationResult
station_uncoded lent k c s =
    whether station_short lent then station_refused 1 s
    else whether not_there k 1 s then station_refused 10 s
    else whether not (station_sound s) then station_refused 2 s
    else uncoded_at k c s (slot_of k s)

-- opens the definitions of this file
unfoldable pub station_open : Unit {0}
unfolding station_short station_sound station_start open_at accepted_at call_on station_call_at station_step uncoded_at station_uncoded
station_open = tt
