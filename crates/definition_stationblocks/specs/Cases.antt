-- The blocks that leave two queues of a small station in one call, and the books that say the same, as one table that antt computes. Assumes nothing.
use Rattle.std.specs.Prelude.{ℕ, Bool, List, [], ◌∷◌, ◌++◌, map, T}
use Rattle.std.proofs.Math.Option.{Option, none, some}
use Rattle.words.specs.Pick.{same_numbers}
use Rattle.definition.specs.Base.{every}
use Rattle.definition.specs.Calls.{calls_open}
use Rattle.definition.specs.Consumer.{consumer_open}
use Rattle.definition.specs.Destination.{destination_open}
use Rattle.definition.specs.Runs.{end}
use Rattle.definition.specs.Words.{words_open}
use Rattle.fates.specs.Fates.{removal, fate_by, leavers}
use Rattle.fates.specs.Blocks.{Block, held_blocks, leaves_as, went_as}
use Rattle.fates.specs.Books.{left_block}
use Rattle.definition_station.specs.Types.{StationSlot, Station, started, slot_of}
use Rattle.definition_station.specs.Letters.{letters_open}
use Rattle.definition_station.specs.Station.{StationLengths, carried, station_open}
use Rattle.definition_station.specs.Orders.{StationCall, station_left}
use Rattle.definition_stationfates.specs.Books.{empty_book, stored_gets, letter_gets, letters_get, gets_at, book_after}
use Rattle.definition_stationfates.specs.Told.{place_stored, letter_place, letter_places, told_at}
use Rattle.definition_stationblocks.specs.StationBlocks.{blocks_gone, blocks_came}

abbrev lent : StationLengths
lent = record { head = 66776; subs = 256; rows = 4096; own = 20; events = 4872 }

-- a call of a station: the destination's number, the code, the words
abbrev line : ℕ → ℕ → List ℕ → StationCall
line k code ws = record { place = k; code = code; words = ws; lengths = lent }

-- an open with a dead-letter name
abbrev opens : ℕ → ℕ → StationCall
opens k name = line k 0 (0 ∷ 0 ∷ 20 ∷ 0 ∷ 0 ∷ 0 ∷ name ∷ 0 ∷ [])

-- an enqueue at 10, persistent or not, with an expiration
abbrev puts : ℕ → ℕ → ℕ → StationCall
puts k persistent expires = line k 1 (0 ∷ expires ∷ persistent ∷ 7 ∷ 0 ∷ 0 ∷ 10 ∷ 6 ∷ [])

-- a join of the consumer 9 1 1 with prefetch 5, at 20
abbrev joins : ℕ → StationCall
joins k = line k 2 (9 ∷ 1 ∷ 1 ∷ 5 ∷ 64 ∷ 0 ∷ 20 ∷ 0 ∷ [])

-- it rejects the numbers from first to last, at 30
abbrev rejects : ℕ → ℕ → ℕ → StationCall
rejects k first last = line k 4 (9 ∷ 1 ∷ 1 ∷ 1537 ∷ first ∷ last ∷ 30 ∷ 0 ∷ [])

-- ---- one look

abbrev made : List StationCall → Station
made cs = end station_left cs started

abbrev flat : List Block → List ℕ
flat [] = []
flat (b ∷ bs) = b ++ flat bs

abbrev looked : ℕ → StationCall → Station → Option StationSlot → Option StationSlot → List ℕ
looked j c s none y = []
looked j c s (some x) none = []
looked j c s (some x) (some y) = flat (blocks_gone c.code (carried c.code c.words s) y.dest (held_blocks x.dest) (blocks_came j c.place c.code c.words s))

-- the blocks that leave the destination j in a call, told from the state after it: number, place, persistent
abbrev told : ℕ → StationCall → Station → List ℕ
told j c s = looked j c s (slot_of j s) (slot_of j (station_left c s))

-- and as its book has them
abbrev written : ℕ → StationCall → Station → List ℕ
written j c s = flat (map left_block (book_after j c.place c.code c.words s empty_book).gone)

abbrev says : ℕ → StationCall → Station → List ℕ → Bool
says j c s l = every (same_numbers (told j c s) l ∷ same_numbers (written j c s) l ∷ [])

-- 0 names 1, and both have a consumer; 1 is in flight at 1, and 2, 3 and 4 at 0, of which 2 expires at 25 and 4 is not persistent
abbrev two : Station
two = made (opens 0 1 ∷ opens 1 8 ∷ puts 1 1 0 ∷ puts 0 1 25 ∷ puts 0 1 0 ∷ puts 0 0 0 ∷ joins 0 ∷ joins 1 ∷ [])

-- 0 names itself; 1, which expires at 25, and 2 are in flight there
abbrev itself : Station
itself = made (opens 0 0 ∷ puts 0 1 25 ∷ puts 0 1 0 ∷ joins 0 ∷ [])

cases : List Bool
cases =
    -- all three leave 0 as dead-lettered; the letters are 5 and 6, and 5 expires at 1 in the very call
    says 0 (rejects 0 2 4) two (2 ∷ 6 ∷ 1 ∷ 3 ∷ 6 ∷ 1 ∷ 4 ∷ 6 ∷ 0 ∷ [])
    ∷ says 1 (rejects 0 2 4) two (5 ∷ 4 ∷ 1 ∷ [])
    -- what was held comes first, and then the letter, 3, that comes back and expires
    ∷ says 0 (rejects 0 1 1) itself (1 ∷ 6 ∷ 1 ∷ 3 ∷ 4 ∷ 1 ∷ [])
    -- a direct enqueue that has expired as it comes; at another destination nothing leaves
    ∷ says 1 (puts 1 1 5) two (5 ∷ 4 ∷ 1 ∷ [])
    ∷ says 0 (puts 1 1 5) two []
    ∷ []

all_right : T (every cases)
unfolding cases consumer_open destination_open calls_open words_open letters_open station_open removal fate_by leavers leaves_as went_as stored_gets letter_gets letters_get gets_at place_stored letter_place letter_places told_at blocks_gone
all_right = tt
