-- Document 02's §1 in small stations, as one table that antt computes. Assumes nothing.
use Rattle.std.specs.Prelude.{ℕ, ◌-◌, ◌^◌, Bool, true, List, [], ◌∷◌, ◌++◌, map, eqb, T, pos}
use Rattle.std.proofs.Math.Option.{Option, none, some}
use mir.Val.{bool_byte}
use Rattle.words.specs.Pick.{same_numbers}
use Rattle.words.specs.Words.{unsigned}
use Rattle.definition.specs.Base.{every, up_from}
use Rattle.definition.specs.Types.{queue, Entry, Event, letter, message, null, with_pending}
use Rattle.definition.specs.Consumer.{consumer_open}
use Rattle.definition.specs.Destination.{destination_open}
use Rattle.definition.specs.Calls.{opened, calls_open}
use Rattle.definition.specs.Words.{words_open}
use Rattle.definition_station.specs.Types.{StationSlot, Station, started, slot_of, StationEvent}
use Rattle.definition_station.specs.Letters.{letters_open}
use Rattle.definition_station.specs.Station.{StationLengths, station_sound, station_start, station_step, station_open}

-- an event as numbers: its destination, then 0 x, 1 d, 2 n with the sequence number, or the consumer's connection
abbrev numbers : List StationEvent → List ℕ
numbers [] = []
numbers (e ∷ es) = e.place ∷ (one e.event ++ numbers es)
  where
    one : Event → List ℕ
    one (letter s r c) = 0 ∷ s ∷ []
    one (message i s r) = 1 ∷ s ∷ []
    one (null i) = 2 ∷ i.conn ∷ []

abbrev lent : ℕ → StationLengths
lent events = record { head = 66776; subs = 256; rows = 4096; own = 20; events = events }

-- a call of a station: the destination's number, the code, the words
abbrev Line : Type 0
Line = ℕ × ℕ × List ℕ

-- an open with a call limit and a dead-letter name
abbrev opens : ℕ → ℕ → ℕ → Line
opens k limit name = (k, 0, 0 ∷ 0 ∷ limit ∷ 0 ∷ 0 ∷ 0 ∷ name ∷ 0 ∷ [])

-- an enqueue, persistent or not, with expiration 900, connection 7, match word 5, redelivery 4 and size 6
abbrev puts : ℕ → ℕ → Line
puts k persistent = (k, 1, 0 ∷ 900 ∷ persistent ∷ 7 ∷ 5 ∷ 4 ∷ 10 ∷ 6 ∷ [])

-- a join of the consumer 9 1 1 with prefetch 5; flags 2 for a browser
abbrev joins : ℕ → ℕ → Line
joins k flags = (k, 2, 9 ∷ 1 ∷ 1 ∷ 5 ∷ 64 ∷ flags ∷ 20 ∷ 0 ∷ [])

-- its acknowledgement, of the numbers from first to last: 1537 is an untransacted POISON, 1793 a transacted one
abbrev acks : ℕ → ℕ → ℕ → ℕ → Line
acks k flags first last = (k, 4, 9 ∷ 1 ∷ 1 ∷ flags ∷ first ∷ last ∷ 30 ∷ 0 ∷ [])

abbrev leaves : ℕ → Line
leaves k = (k, 3, 9 ∷ 1 ∷ 1 ∷ (2 ^ 64 - 1) ∷ 25 ∷ 0 ∷ 0 ∷ 0 ∷ [])

-- a call that does nothing, and uses one
abbrev clears : ℕ → Line
clears k = (k, 10, 0 ∷ 0 ∷ 0 ∷ 0 ∷ 0 ∷ 0 ∷ 0 ∷ 0 ∷ [])

-- a run: the refusal and events of each, and the station
pub record StationRun : Type 0 where
  pub seen : List ℕ
  pub station : Station

abbrev runs : List Line → Station → StationRun
runs [] s = record { seen = []; station = s }
runs (c ∷ cs) s = let r = station_step (lent 4872) c.0 c.1 c.2 s in let rest = runs cs r.station in record { seen = r.refusal ∷ (numbers r.events ++ rest.seen); station = rest.station }

abbrev fresh : List Line → StationRun
fresh cs = runs cs started

-- next and lost, then what a place holds: calls used and the numbers waiting
abbrev own : StationRun → List ℕ
own r = r.station.next ∷ r.station.lost ∷ []

abbrev held_in : Option StationSlot → List ℕ
held_in none = []
held_in (some x) = x.dest.calls_used ∷ map (λ e. e.seq) x.dest.pending

abbrev holds : ℕ → StationRun → List ℕ
holds k r = held_in (slot_of k r.station)

-- all fields of what waits there, expiration and redelivery as words
abbrev fields : List Entry → List ℕ
fields [] = []
fields (e ∷ es) = e.seq ∷ unsigned e.expiration ∷ bool_byte e.persistent ∷ e.producer ∷ e.match_word ∷ unsigned e.redelivery ∷ e.size ∷ fields es

abbrev fields_in : Option StationSlot → List ℕ
fields_in none = []
fields_in (some x) = fields x.dest.pending

-- two entries on 0, sent to the consumer, and both rejected
abbrev rejecting : List Line
rejecting = puts 0 1 ∷ puts 0 1 ∷ joins 0 0 ∷ acks 0 1537 1 2 ∷ []

-- what `rejecting` gets before its dead letters are run
abbrev before : List ℕ → List ℕ
before l = 0 ∷ 0 ∷ 0 ∷ 0 ∷ 1 ∷ 1 ∷ 0 ∷ 1 ∷ 2 ∷ 0 ∷ 0 ∷ 0 ∷ 1 ∷ 0 ∷ 0 ∷ 2 ∷ l

-- a chain: 0 names 1, which names 2
abbrev chained : ℕ → StationRun
chained limit = fresh (opens 0 9 1 ∷ opens 1 limit 2 ∷ opens 2 9 8 ∷ clears 1 ∷ rejecting)

-- 1 gives each connection a row
abbrev shared : StationRun
shared = fresh (opens 0 9 1 ∷ (1, 0, 0 ∷ 0 ∷ 9 ∷ 0 ∷ 0 ∷ 1 ∷ 2 ∷ 0 ∷ []) ∷ opens 2 9 8 ∷ rejecting)

-- 1 is a topic
abbrev to_topic : StationRun
to_topic = fresh (opens 0 9 1 ∷ (1, 0, 1 ∷ 0 ∷ 9 ∷ 0 ∷ 0 ∷ 0 ∷ 8 ∷ 0 ∷ []) ∷ rejecting)

-- all eight, in a ring; 1 to 7 have no call left, and 0 has so many
abbrev ring : ℕ → StationRun
ring limit = fresh (opens 0 limit 1 ∷ opens 1 1 2 ∷ opens 2 1 3 ∷ opens 3 1 4 ∷ opens 4 1 5 ∷ opens 5 1 6 ∷ opens 6 1 7 ∷ opens 7 1 0
    ∷ clears 1 ∷ clears 2 ∷ clears 3 ∷ clears 4 ∷ clears 5 ∷ clears 6 ∷ clears 7 ∷ puts 0 1 ∷ joins 0 0 ∷ acks 0 1537 1 1 ∷ [])

-- 512 entries waiting, from 1001 on
abbrev entry : ℕ → Entry
entry n = record { seq = n; expiration = pos 0; persistent = true; producer = 7; match_word = 0; redelivery = pos 0; size = 1 }

abbrev full : ℕ → Option StationSlot
full name = some (record { dest = with_pending (map entry (up_from 1001 512)) (opened queue 0 100 0 0 512); name = name })

abbrev with_last : ℕ → ℕ → Station → Station
with_last next lost s = record { slots = s.slots; next = next; lost = lost }

-- 1 and 2 are full and name each other
abbrev cycle : StationRun
cycle = runs rejecting (record { slots = some (record { dest = opened queue 0 9 0 0 512; name = 1 }) ∷ full 2 ∷ full 1 ∷ none ∷ none ∷ none ∷ none ∷ none ∷ []; next = 1; lost = 0 })

-- nothing open, and 0 open with the next number and the lost count
abbrev alone : ℕ → ℕ → ℕ → StationRun
alone name next lost = let r = fresh (opens 0 9 name ∷ puts 0 1 ∷ puts 0 1 ∷ joins 0 0 ∷ []) in runs (acks 0 1537 1 2 ∷ []) (with_last next lost r.station)

cases : List Bool
cases =
    -- the first number is 1; a dead letter is stored where its destination names, and takes the next numbers in the order of the `x` events
    same_numbers (chained 9).seen (0 ∷ 0 ∷ 0 ∷ 0 ∷ before [])
    ∷ same_numbers (own (chained 9)) (5 ∷ 0 ∷ [])
    ∷ same_numbers (holds 1 (chained 9)) (3 ∷ 3 ∷ 4 ∷ [])
    ∷ same_numbers (holds 2 (chained 9)) (0 ∷ [])
    ∷ station_sound (chained 9).station
    -- "Its other fields stay, match word included"
    ∷ same_numbers (fields_in (slot_of 1 (chained 9).station)) (3 ∷ 900 ∷ 1 ∷ 7 ∷ 5 ∷ 4 ∷ 6 ∷ 4 ∷ 900 ∷ 1 ∷ 7 ∷ 5 ∷ 4 ∷ 6 ∷ [])
    -- a share of one row on 1: the second letter of connection 7 is refused there (14), and goes on to 2
    ∷ same_numbers (holds 1 shared) (1 ∷ 3 ∷ [])
    ∷ same_numbers (holds 2 shared) (1 ∷ 4 ∷ [])
    -- a topic that no consumer accepts it on takes it without a row: it is not lost
    ∷ same_numbers (holds 1 to_topic) (2 ∷ [])
    ∷ same_numbers (own to_topic) (5 ∷ 0 ∷ [])
    -- a start leaves none open
    ∷ same_numbers (runs (puts 0 1 ∷ []) (station_start (lent 4872) (chained 9).station).station).seen (10 ∷ [])
    ∷ eqb (station_start (lent 4871) started).refusal 1
    -- one call is left on 1: the first letter is stored there, and the second goes on to 2
    ∷ same_numbers (holds 1 (chained 2)) (2 ∷ 3 ∷ [])
    ∷ same_numbers (holds 2 (chained 2)) (1 ∷ 4 ∷ [])
    -- 1 has none left: both go on
    ∷ same_numbers (holds 2 (chained 1)) (2 ∷ 3 ∷ 4 ∷ [])
    ∷ same_numbers (own (chained 1)) (5 ∷ 0 ∷ [])
    -- "each event names its destination", and those of the enqueue follow: the consumer of 1 is sent both
    ∷ same_numbers (fresh (opens 0 9 1 ∷ opens 1 9 8 ∷ joins 1 0 ∷ rejecting)).seen (0 ∷ 0 ∷ 0 ∷ before (1 ∷ 1 ∷ 3 ∷ 1 ∷ 1 ∷ 4 ∷ []))
    -- a destination that names itself: they come again, with new numbers
    ∷ same_numbers (fresh (opens 0 9 0 ∷ rejecting)).seen (0 ∷ before (0 ∷ 1 ∷ 3 ∷ 0 ∷ 1 ∷ 4 ∷ []))
    ∷ same_numbers (own (fresh (opens 0 9 0 ∷ rejecting))) (5 ∷ 0 ∷ [])
    -- eight hops: the eighth is 0 itself, which takes the letter if it has a call left, and else it is lost
    ∷ same_numbers (holds 0 (ring 9)) (4 ∷ [])
    ∷ same_numbers (own (ring 9)) (3 ∷ 0 ∷ [])
    ∷ same_numbers (own (ring 3)) (3 ∷ 1 ∷ [])
    -- two full ones that name each other: lost after eight hops
    ∷ station_sound cycle.station
    ∷ same_numbers cycle.seen (before [])
    ∷ same_numbers (own cycle) (5 ∷ 2 ∷ [])
    -- where none is named, and where the one that is named is not open: lost, and the numbers are taken
    ∷ same_numbers (alone 8 3 0).seen (0 ∷ 0 ∷ 0 ∷ 1 ∷ 0 ∷ 0 ∷ 2 ∷ [])
    ∷ same_numbers (own (alone 8 3 0)) (5 ∷ 2 ∷ [])
    ∷ same_numbers (own (alone 3 3 0)) (5 ∷ 2 ∷ [])
    -- one number left, and none: the letter is lost and takes none
    ∷ same_numbers (own (alone 0 (2 ^ 63 - 1) 0)) ((2 ^ 63) ∷ 1 ∷ [])
    ∷ same_numbers (own (alone 0 (2 ^ 63) 0)) ((2 ^ 63) ∷ 2 ∷ [])
    -- and a direct enqueue gets 3
    ∷ same_numbers (runs (puts 0 1 ∷ []) (alone 0 (2 ^ 63) 0).station).seen (3 ∷ [])
    -- the lost count stops at 2^63 - 1
    ∷ same_numbers (own (alone 8 3 (2 ^ 63 - 2))) (5 ∷ (2 ^ 63 - 1) ∷ [])
    -- not persistent, a browser's, or in a transaction: no dead letter
    ∷ same_numbers (own (fresh (opens 0 9 8 ∷ puts 0 0 ∷ joins 0 0 ∷ acks 0 1537 1 1 ∷ []))) (2 ∷ 0 ∷ [])
    ∷ same_numbers (own (fresh (opens 0 9 8 ∷ puts 0 1 ∷ joins 0 2 ∷ acks 0 1537 1 1 ∷ []))) (2 ∷ 0 ∷ [])
    ∷ same_numbers (own (fresh (opens 0 9 8 ∷ puts 0 1 ∷ joins 0 0 ∷ acks 0 1793 1 1 ∷ []))) (2 ∷ 0 ∷ [])
    -- an absent consumer's reserved entry, rejected
    ∷ same_numbers (own (fresh (opens 0 9 8 ∷ puts 0 1 ∷ joins 0 0 ∷ acks 0 1793 1 1 ∷ leaves 0 ∷ acks 0 1537 1 1 ∷ []))) (3 ∷ 1 ∷ [])
    -- "Direct enqueues .. carry none": a number in word 0 gets 3; a refused enqueue takes no number
    ∷ same_numbers (fresh (opens 0 1 8 ∷ (0, 1, 5 ∷ 0 ∷ 1 ∷ 7 ∷ 5 ∷ 4 ∷ 10 ∷ 0 ∷ []) ∷ puts 0 1 ∷ puts 0 1 ∷ [])).seen (0 ∷ 3 ∷ 0 ∷ 9 ∷ [])
    ∷ same_numbers (own (fresh (opens 0 1 8 ∷ puts 0 1 ∷ puts 0 1 ∷ []))) (2 ∷ 0 ∷ [])
    -- 10: a number above 7, or one not open; an open of 8, too
    ∷ same_numbers (fresh (puts 0 1 ∷ opens 8 1 8 ∷ opens 7 1 8 ∷ puts 7 1 ∷ puts 6 1 ∷ [])).seen (10 ∷ 10 ∷ 0 ∷ 0 ∷ 10 ∷ [])
    -- a dead-letter name above 8 gets 3
    ∷ same_numbers (fresh (opens 0 1 9 ∷ [])).seen (3 ∷ [])
    -- 1 comes before 10, and 10 before 2; open needs no sound state
    ∷ eqb (station_step (lent 4871) 8 1 [] started).refusal 1
    ∷ same_numbers (runs (puts 1 1 ∷ puts 0 1 ∷ opens 1 1 8 ∷ []) (with_last 0 0 (fresh (opens 0 1 8 ∷ [])).station)).seen (10 ∷ 2 ∷ 0 ∷ [])
    ∷ []

all_right : T (every cases)
unfolding cases consumer_open destination_open calls_open words_open letters_open station_open
all_right = tt
