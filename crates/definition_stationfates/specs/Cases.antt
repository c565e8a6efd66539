-- The books of two queues of a small station, and the rows of dead letters, as one table that antt computes. Assumes nothing.
use Rattle.std.specs.Prelude.{ℕ, ◌-◌, ◌^◌, Bool, List, [], ◌∷◌, ◌++◌, T}
use Rattle.std.proofs.Math.Option.{Option, none, some}
use Rattle.words.specs.Pick.{same_numbers}
use Rattle.definition.specs.Base.{every}
use Rattle.definition.specs.Calls.{seqs, calls_open}
use Rattle.definition.specs.Consumer.{consumer_open}
use Rattle.definition.specs.Destination.{destination_open}
use Rattle.definition.specs.Runs.{end}
use Rattle.definition.specs.Words.{words_open}
use Rattle.fates.specs.Fates.{Fate, dequeued, expired, dead_lettered, cleared, removal, fate_by, leavers}
use Rattle.fates.specs.Account.{left_as}
use Rattle.definition_station.specs.Letters.{letters_open}
use Rattle.definition_station.specs.Station.{StationLengths, station_open}
use Rattle.definition_station.specs.Orders.{StationCall, station_left}
use Rattle.definition_station.specs.Types.{StationSlot, Station, started, slot_of}
use Rattle.definition_stationfates.specs.Books.{Book, empty_book, stored_gets, letter_gets, letters_get, gets_at, book_along}
use Rattle.definition_stationfates.specs.Told.{ToldLetter, told_row, place_stored, letter_place, letter_places, told_at, told_letters}

abbrev lent : StationLengths
lent = record { head = 66776; subs = 256; rows = 4096; own = 20; events = 4872 }

-- a call of a station: the destination's number, the code, the words
abbrev line : ℕ → ℕ → List ℕ → StationCall
line k code ws = record { place = k; code = code; words = ws; lengths = lent }

-- an open with a call limit and a dead-letter name; a topic
abbrev opens : ℕ → ℕ → ℕ → StationCall
opens k limit name = line k 0 (0 ∷ 0 ∷ limit ∷ 0 ∷ 0 ∷ 0 ∷ name ∷ 0 ∷ [])

abbrev topics : ℕ → StationCall
topics k = line k 0 (1 ∷ 0 ∷ 9 ∷ 0 ∷ 0 ∷ 0 ∷ 8 ∷ 0 ∷ [])

-- an enqueue, persistent or not, with an expiration
abbrev puts : ℕ → ℕ → ℕ → StationCall
puts k persistent expires = line k 1 (0 ∷ expires ∷ persistent ∷ 7 ∷ 0 ∷ 0 ∷ 10 ∷ 6 ∷ [])

-- a join of the consumer 9 1 1 with prefetch 5
abbrev joins : ℕ → StationCall
joins k = line k 2 (9 ∷ 1 ∷ 1 ∷ 5 ∷ 64 ∷ 0 ∷ 20 ∷ 0 ∷ [])

-- its acknowledgement, of the numbers from first to last: 1537 is a POISON, 1540 an INDIVIDUAL
abbrev acks : ℕ → ℕ → ℕ → ℕ → StationCall
acks k flags first last = line k 4 (9 ∷ 1 ∷ 1 ∷ flags ∷ first ∷ last ∷ 30 ∷ 0 ∷ [])

-- it clears; on an empty destination it uses a call, and nothing else
abbrev clears : ℕ → StationCall
clears k = line k 10 (0 ∷ 0 ∷ 0 ∷ 0 ∷ 0 ∷ 0 ∷ 0 ∷ 0 ∷ [])

-- ---- books

-- the book of j and the station after some calls, from a start on
abbrev book_of : ℕ → List StationCall → Book
book_of j cs = book_along j cs started empty_book

abbrev made : List StationCall → Station
made cs = end station_left cs started

-- 0 names 1
abbrev first : List StationCall
first =
    opens 0 20 1
    ∷ opens 1 20 8
    -- two go out, one persistent and one not, and both are rejected: the letter, 3, is stored on 1
    ∷ joins 0
    ∷ puts 0 1 0
    ∷ puts 0 0 0
    ∷ acks 0 1537 1 2
    -- 4 goes out and is acknowledged, 5 has expired as it comes
    ∷ puts 0 1 0
    ∷ acks 0 1540 4 4
    ∷ puts 0 1 5
    -- 6 comes to 1 directly
    ∷ puts 1 1 0
    ∷ []

-- accepted; dequeued, expired, dead-lettered, cleared
abbrev says : Book → List ℕ → List ℕ → List ℕ → List ℕ → List ℕ → Bool
says b a d e l c =
    let gone : Fate → List ℕ = λ f. seqs (left_as f b.gone) in
    every (same_numbers (seqs b.accepted) a ∷ same_numbers (gone dequeued) d ∷ same_numbers (gone expired) e ∷ same_numbers (gone dead_lettered) l ∷ same_numbers (gone cleared) c ∷ [])

abbrev counters_of : Option StationSlot → List ℕ
counters_of none = []
counters_of (some x) = let c = x.dest.stats in c.enqueued ∷ c.dequeued ∷ c.expired ∷ c.discarded ∷ []

abbrev counts : ℕ → List StationCall → List ℕ
counts k cs = counters_of (slot_of k (made cs))

-- ---- rows

abbrev numbers_of : List ToldLetter → List ℕ
numbers_of [] = []
numbers_of (r ∷ rs) = told_row r ++ numbers_of rs

-- what the last call tells: had, got, place, for each letter
abbrev tells : StationCall → Station → List ℕ
tells c s = numbers_of (told_letters c.place c.code c.words s)

-- 1 and 2 of the place 0 are sent
abbrev two_sent : List StationCall
two_sent = puts 0 1 0 ∷ puts 0 1 0 ∷ joins 0 ∷ []

abbrev rejects : StationCall
rejects = acks 0 1537 1 2

-- after these opens
abbrev after_opens : List StationCall → List ℕ
after_opens cs = tells rejects (made (cs ++ two_sent))

-- a chain in which 1 has one call
abbrev hopping : List StationCall
hopping = opens 0 9 1 ∷ opens 1 1 2 ∷ opens 2 9 8 ∷ two_sent

-- the same station with another next number
abbrev with_next : ℕ → Station → Station
with_next next s = record { slots = s.slots; next = next; lost = s.lost }

-- all eight in a ring, of which 1 to 7 have no call left; 0 has so many
abbrev ring : ℕ → Station
ring limit = made (opens 0 limit 1 ∷ opens 1 1 2 ∷ opens 2 1 3 ∷ opens 3 1 4 ∷ opens 4 1 5 ∷ opens 5 1 6 ∷ opens 6 1 7 ∷ opens 7 1 0
    ∷ clears 1 ∷ clears 2 ∷ clears 3 ∷ clears 4 ∷ clears 5 ∷ clears 6 ∷ clears 7 ∷ two_sent)

cases : List Bool
cases =
    -- a letter is accepted on 1; the one that is not persistent is no letter, and is discarded
    says (book_of 0 first) (1 ∷ 2 ∷ 4 ∷ 5 ∷ []) (4 ∷ []) (5 ∷ []) (1 ∷ 2 ∷ []) []
    ∷ same_numbers (counts 0 first) (4 ∷ 1 ∷ 1 ∷ 1 ∷ [])
    ∷ says (book_of 1 first) (3 ∷ 6 ∷ []) [] [] [] []
    ∷ same_numbers (counts 1 first) (2 ∷ 0 ∷ 0 ∷ 0 ∷ [])
    ∷ says (book_of 1 (first ++ (clears 1 ∷ []))) (3 ∷ 6 ∷ []) [] [] [] (3 ∷ 6 ∷ [])
    -- an open of another place and a refused call leave the book of 1 as it is, and an open of 1 begins anew
    ∷ says (book_of 1 (first ++ (opens 2 9 8 ∷ puts 1 2 0 ∷ []))) (3 ∷ 6 ∷ []) [] [] [] []
    ∷ says (book_of 1 (first ++ (opens 1 9 8 ∷ []))) [] [] [] [] []
    -- a letter that comes back to its own destination is another entry of the same book
    ∷ says (book_of 0 (opens 0 9 0 ∷ (two_sent ++ (acks 0 1537 1 1 ∷ [])))) (1 ∷ 2 ∷ 3 ∷ []) [] [] (1 ∷ []) []
    -- one call is left on 1: the second letter goes on to 2
    ∷ says (book_of 1 (hopping ++ (rejects ∷ []))) (3 ∷ []) [] [] [] []
    ∷ says (book_of 2 (hopping ++ (rejects ∷ []))) (4 ∷ []) [] [] [] []
    -- a chain: both are stored on 1; one call is left there, and the second goes on to 2; none is left, and both go on
    ∷ same_numbers (after_opens (opens 0 9 1 ∷ opens 1 9 2 ∷ opens 2 9 8 ∷ [])) (1 ∷ 3 ∷ 1 ∷ 2 ∷ 4 ∷ 1 ∷ [])
    ∷ same_numbers (tells rejects (made hopping)) (1 ∷ 3 ∷ 1 ∷ 2 ∷ 4 ∷ 2 ∷ [])
    ∷ same_numbers (after_opens (opens 0 9 1 ∷ opens 1 1 2 ∷ opens 2 9 8 ∷ clears 1 ∷ [])) (1 ∷ 3 ∷ 2 ∷ 2 ∷ 4 ∷ 2 ∷ [])
    -- a ring: the eighth hop is 0 itself, which has a call left for the first letter, for both, or for none
    ∷ same_numbers (tells rejects (ring 5)) (1 ∷ 3 ∷ 0 ∷ 2 ∷ 4 ∷ 8 ∷ [])
    ∷ same_numbers (tells rejects (ring 6)) (1 ∷ 3 ∷ 0 ∷ 2 ∷ 4 ∷ 0 ∷ [])
    ∷ same_numbers (tells rejects (ring 4)) (1 ∷ 3 ∷ 8 ∷ 2 ∷ 4 ∷ 8 ∷ [])
    -- none named, and the one that is named not open: lost, with a number
    ∷ same_numbers (after_opens (opens 0 9 8 ∷ [])) (1 ∷ 3 ∷ 8 ∷ 2 ∷ 4 ∷ 8 ∷ [])
    ∷ same_numbers (after_opens (opens 0 9 3 ∷ [])) (1 ∷ 3 ∷ 8 ∷ 2 ∷ 4 ∷ 8 ∷ [])
    -- one number left, and none: lost, without one
    ∷ same_numbers (tells rejects (with_next (2 ^ 63 - 1) (made (opens 0 9 1 ∷ opens 1 9 8 ∷ two_sent)))) (1 ∷ (2 ^ 63 - 1) ∷ 1 ∷ 2 ∷ 0 ∷ 8 ∷ [])
    ∷ same_numbers (tells rejects (with_next (2 ^ 63) (made (opens 0 9 1 ∷ opens 1 9 8 ∷ two_sent)))) (1 ∷ 0 ∷ 8 ∷ 2 ∷ 0 ∷ 8 ∷ [])
    -- a destination that names itself, and a topic, which takes it without a row
    ∷ same_numbers (after_opens (opens 0 9 0 ∷ [])) (1 ∷ 3 ∷ 0 ∷ 2 ∷ 4 ∷ 0 ∷ [])
    ∷ same_numbers (after_opens (opens 0 9 1 ∷ topics 1 ∷ [])) (1 ∷ 3 ∷ 1 ∷ 2 ∷ 4 ∷ 1 ∷ [])
    -- only what is rejected: the first alone, and what an INDIVIDUAL removes is no letter
    ∷ same_numbers (tells (acks 0 1537 1 1) (made (opens 0 9 1 ∷ opens 1 9 8 ∷ two_sent))) (1 ∷ 3 ∷ 1 ∷ [])
    ∷ same_numbers (tells (acks 0 1540 1 1) (made (opens 0 9 1 ∷ opens 1 9 8 ∷ two_sent))) []
    -- one that is not persistent is none either
    ∷ same_numbers (tells rejects (made (opens 0 9 1 ∷ opens 1 9 8 ∷ puts 0 0 0 ∷ puts 0 1 0 ∷ joins 0 ∷ []))) (2 ∷ 3 ∷ 1 ∷ [])
    ∷ []

all_right : T (every cases)
unfolding cases consumer_open destination_open calls_open words_open letters_open station_open removal fate_by leavers stored_gets letter_gets letters_get gets_at place_stored letter_place letter_places told_at
all_right = tt
