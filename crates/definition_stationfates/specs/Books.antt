-- The account of a queue on a station (document 02 §7 with §1): that of the calls that the destination gets. A dead letter stored is an accepted enqueue there. Assumes nothing.
use Rattle.std.specs.Prelude.{ℕ, zero, suc, ◌≤◌, ◌≡◌, Bool, true, not, ◌&&◌, ◌||◌, List, [], ◌∷◌, ◌++◌, map, eqb, length}
use Rattle.std.proofs.Math.Option.{Option, none, some}
use Rattle.definition.specs.Base.{whether◌then◌else◌, keep, all}
use Rattle.definition.specs.Types.{queue, Entry, Dest}
use Rattle.definition.specs.Calls.{Call, enqueuing, discarding, missing, brought, call}
use Rattle.definition.specs.Queries.{is_queue}
use Rattle.definition.specs.Runs.{end}
use Rattle.definition.specs.Words.{at, kind_of, decode, step}
use Rattle.fates.specs.Fates.{Departure, departures}
use Rattle.fates.specs.Account.{Account, places, entries_at, over_places, Accounted, CountersSplit}
use Rattle.definition_station.specs.Types.{StationSlot, with_dest, Station, slot_of}
use Rattle.definition_station.specs.Letters.{rejected, clock_of, Numbered, number_letters, whole, storing, hops_max}
use Rattle.definition_station.specs.Station.{StationLengths, carried, called, station_step, station_uncoded}
use Rattle.definition_station.specs.Orders.{ReachedStation, StationCall, station_result, station_left}

-- ---- the calls that destinations get

-- one accepted call of a destination: which, what, and the destination before and after
pub record Gets : Type 0 where
  pub place : ℕ
  pub call : Call
  pub before : Dest
  pub after : Dest

abbrev pub gets_call : ℕ → Call → Dest → Gets
gets_call k c t = record { place = k; call = c; before = t; after = (call whole c t).dest }

-- where a dead letter is stored, if it is, as `storing` goes: hops left, clock, the name, the letter
unfoldable pub stored_gets : (ℕ → List Gets) → ℕ → ℕ → Entry → Option StationSlot → List Gets
stored_gets on now k e none = []
stored_gets on now k e (some x) = whether eqb (call whole (enqueuing e now) x.dest).refusal 0 then gets_call k (enqueuing e now) x.dest ∷ [] else on x.name

unfoldable pub letter_gets : ℕ → ℕ → ℕ → Entry → Station → List Gets
letter_gets zero now k e s = []
letter_gets (suc hops) now k e s = stored_gets (λ j. letter_gets hops now j e s) now k e (slot_of k s)

-- some of them, one after another
unfoldable pub letters_get : ℕ → ℕ → ℕ → List Entry → Station → List Gets
letters_get hops now k [] s = []
letters_get hops now k (e ∷ es) s = letter_gets hops now k e s ++ letters_get hops now k es (storing hops now k e s).station

-- the call's own destination
abbrev pub own_gets : ℕ → Option Call → Dest → List Gets
own_gets k none t = []
own_gets k (some c) t = gets_call k c t ∷ []

-- what a call says to its destination
abbrev pub call_said : ℕ → List ℕ → Station → Option Call
call_said code ws s = decode code (carried code ws s)

-- its dead letters, numbered, where the open destination x accepts it
abbrev pub call_letters : ℕ → ℕ → List ℕ → Station → StationSlot → Numbered
call_letters k code ws s x = number_letters (rejected x.dest (call_said code ws s)) (called k code x (step whole code (carried code ws s) x.dest).dest s)

-- an accepted call: its own destination's, and then the letters'; an open gets none
unfoldable pub gets_at : ℕ → ℕ → List ℕ → Station → Option StationSlot → List Gets
gets_at k code ws s none = []
gets_at k code ws s (some x) =
    let c = call_said code ws s in
    let n = call_letters k code ws s x in
    own_gets k c x.dest ++ letters_get hops_max (clock_of c) x.name n.letters n.station

abbrev pub call_gets : ℕ → ℕ → List ℕ → Station → List Gets
call_gets k code ws s = gets_at k code ws s (slot_of k s)

-- those of the destination j
abbrev pub calls_got : ℕ → List Gets → List Call
calls_got j gs = map (λ g. g.call) (keep (λ g. eqb g.place j) gs)

-- ---- the book of a destination

-- the entries accepted, and those that left and how
pub record Book : Type 0 where
  pub accepted : List Entry
  pub gone : List Departure

abbrev pub empty_book : Book
empty_book = record { accepted = []; gone = [] }

-- a call that it gets
abbrev pub note_one : Gets → Book → Book
note_one g b = record { accepted = b.accepted ++ brought g.call; gone = b.gone ++ departures g.call g.before g.after }

-- those of the destination j
abbrev pub notes : ℕ → List Gets → Book → Book
notes j [] b = b
notes j (g ∷ gs) b = notes j gs (whether eqb g.place j then note_one g b else b)

-- the book of j after an accepted call on k
abbrev pub book_after : ℕ → ℕ → ℕ → List ℕ → Station → Book → Book
book_after j k code ws s b = notes j (call_gets k code ws s) b

-- "Take a queue from its opening .. with neither `add_discarded` nor `expired_before_storing` called": along all accepted calls since, on any destination.
-- That every enqueue has a new sequence number is no premise here: the station gives the numbers.
pub data Booked (j : ℕ) : Book → Station → Type 0 where
  opens : {cleared : ℕ → Bool} {s : Station} (lent : StationLengths) (words : List ℕ) → ReachedStation cleared s → (station_step lent j 0 words s).refusal ≡ 0 → kind_of (at 0 words) ≡ queue → Booked j empty_book (station_step lent j 0 words s).station
  -- an open of j itself begins a new book
  calls : {b : Book} {s : Station} (lent : StationLengths) (k code : ℕ) (words : List ℕ) → Booked j b s → (station_step lent k code words s).refusal ≡ 0 → (code ≡ 0 → k ≡ j → ⊥)
      → Booked j (book_after j k code words s b) (station_step lent k code words s).station
  -- the two that have no code, on other destinations
  discards : {b : Book} {s : Station} (lent : StationLengths) (k : ℕ) → Booked j b s → (station_uncoded lent k discarding s).refusal ≡ 0 → (k ≡ j → ⊥) → Booked j b (station_uncoded lent k discarding s).station
  misses : {b : Book} {s : Station} (lent : StationLengths) (k : ℕ) → Booked j b s → (station_uncoded lent k missing s).refusal ≡ 0 → (k ≡ j → ⊥) → Booked j b (station_uncoded lent k missing s).station

-- ---- along a list of calls

-- an open of j
abbrev pub opens_place : ℕ → StationCall → Bool
opens_place j c = eqb c.code 0 && eqb c.place j

-- the book of j after any call: a refused one changes nothing, and an open of j begins anew
abbrev pub book_next : ℕ → StationCall → Station → Book → Book
book_next j c s b =
    whether eqb (station_result c s).refusal 0 then (whether opens_place j c then empty_book else book_after j c.place c.code c.words s b)
    else b

abbrev pub book_along : ℕ → List StationCall → Station → Book → Book
book_along j [] s b = b
book_along j (c ∷ cs) s b = book_along j cs (station_left c s) (book_next j c s b)

-- j is opened as a queue only
abbrev pub opens_queues : ℕ → List StationCall → Bool
opens_queues j l = all (λ c. not (opens_place j c) || is_queue (kind_of (at 0 c.words))) l

-- ---- what is claimed

-- these calls, one after another and each accepted, make u of t
abbrev pub Makes : List Call → Dest → Dest → Type 0
Makes [] t u = u ≡ t
Makes (c ∷ cs) t u = ((call whole c t).refusal ≡ 0) × Makes cs (call whole c t).dest u

-- and of what stands at a destination's place; where nothing is open there is no call, and nothing is open after it
abbrev pub MakesAt : List Call → Option StationSlot → Option StationSlot → Type 0
MakesAt cs none o = (cs ≡ []) × (o ≡ none)
MakesAt cs (some x) o = (u : Dest) × (o ≡ some (with_dest u x)) × Makes cs x.dest u

-- each destination, queue or topic, is after an accepted call other than open what the calls that it gets make of it: nothing else changes one
abbrev pub CallsAreMade : Type 0
CallsAreMade =
    (lent : StationLengths) (k code : ℕ) (words : List ℕ) (s : Station)
    → 1 ≤ code
    → (station_step lent k code words s).refusal ≡ 0
    → (j : ℕ) → MakesAt (calls_got j (call_gets k code words s)) (slot_of j s) (slot_of j (station_step lent k code words s).station)

-- §7 of a destination by its book: each accepted entry is in exactly one of the eight places, the enqueued counter is their total, and the counters equal their parts
pub record InBook (b : Book) (t : Dest) : Type 0 where
  pub each : Accounted b.accepted b.gone t
  pub total : t.stats.enqueued ≡ over_places (λ p. length (entries_at p b.gone t)) places
  pub counters : CountersSplit b.gone t

-- the destination is open, and its book is right
abbrev pub BooksAreRight : Type 0
BooksAreRight = (j : ℕ) (b : Book) (s : Station) → Booked j b s → (x : StationSlot) × (slot_of j s ≡ some x) × InBook b x.dest

-- more: its book is an account of document 02 §7, so that every claim on accounts holds of it
abbrev pub BooksAreAccounts : Type 0
BooksAreAccounts = (j : ℕ) (b : Book) (s : Station) → Booked j b s → (x : StationSlot) × (slot_of j s ≡ some x) × Account b.accepted b.gone x.dest

-- and the station is one that accepted calls left, so that a later open of j may begin a new book
abbrev pub BookedIsReached : Type 0
BookedIsReached = (j : ℕ) (b : Book) (s : Station) → Booked j b s → (cleared : ℕ → Bool) × ReachedStation cleared s

-- the book computed along any list of calls, refused ones too
abbrev pub BooksAlong : Type 0
BooksAlong = (j : ℕ) (b : Book) (s : Station) (l : List StationCall) → Booked j b s → opens_queues j l ≡ true → Booked j (book_along j l s b) (end station_left l s)
