-- The blocks of a queue that leave in a call of a station, told from the state after the whole call: the queue gets the call itself, if it is its own, and letters that are stored there
-- at the call's clock. Assumes nothing.
use Rattle.std.specs.Prelude.{ℕ, ◌+◌, ◌≤◌, ◌≡◌, true, List, [], ◌∷◌, ◌++◌, map, ltb, eqb, length}
use Rattle.std.proofs.Math.Option.{some}
use Rattle.definition.specs.Base.{whether◌then◌else◌, keep, all}
use Rattle.definition.specs.Types.{queue, Id, Entry, Dest}
use Rattle.definition.specs.Consumer.{Ack}
use Rattle.definition.specs.Calls.{seqs, acknowledge, Call, enqueuing, asking, call}
use Rattle.definition.specs.Queries.{is_queue}
use Rattle.definition.specs.Words.{decode}
use Rattle.fates.specs.Fates.{holding, Departure, departures}
use Rattle.fates.specs.Blocks.{Block, block_of, block_at, held_blocks, comes, went_as, is_gone}
use Rattle.fates.specs.Books.{left_block}
use Rattle.definition_station.specs.Types.{StationSlot, Station, slot_of}
use Rattle.definition_station.specs.Letters.{rejected_by, whole}
use Rattle.definition_station.specs.Station.{StationLengths, station_sound, carried, station_step}
use Rattle.definition_stationfates.specs.Books.{Makes, Book, empty_book, book_after, Booked}
use Rattle.definition_stationfates.specs.Told.{ToldLetter, is_at, told_letters}

-- of the blocks before an accepted call, and of those that came in it, those that u does not hold; a topic has no account
unfoldable pub blocks_gone : ℕ → List ℕ → Dest → List Block → List Block → List Block
blocks_gone code ws u bs came = whether is_queue u.kind then map (went_as code ws) (keep (is_gone u) (bs ++ came)) else []

-- a dead letter's block where it is stored, with the number that it got: letters are persistent
abbrev pub stored_block : ToldLetter → Block
stored_block t = block_of t.got 0 true

-- what comes to the destination j in an accepted call on k: a direct enqueue's block, if it is k, and the letters that are stored there, in order
abbrev pub blocks_came : ℕ → ℕ → ℕ → List ℕ → Station → List Block
blocks_came j k code ws s = (whether eqb k j then comes code (carried code ws s) else []) ++ map stored_block (keep (is_at j) (told_letters k code ws s))

-- ---- the calls of one queue in a call of a station

-- letters stored there, at a clock
abbrev pub storings : ℕ → List Entry → List Call
storings now es = map (λ e. enqueuing e now) es

-- their numbers rise, from low on
abbrev pub Rising : ℕ → List Entry → Type 0
Rising low [] = Unit {0}
Rising low (e ∷ es) = (low ≤ e.seq) × Rising (e.seq + 1) es

-- those that are held are below it
abbrev pub held_under : ℕ → Dest → Type 0
held_under low t = all (λ n. ltb n low) (seqs (holding t)) ≡ true

-- what leaves in calls, one after another
abbrev pub gone_along : List Call → Dest → List Departure
gone_along [] t = []
gone_along (c ∷ cs) t = departures c t (call whole c t).dest ++ gone_along cs (call whole c t).dest

-- ---- what is claimed: one look after all of them tells what left in each, in order, each block with its place and its persistence

-- a call alone
abbrev pub CallIsTold : Type 0
CallIsTold =
    (code : ℕ) (ws : List ℕ) (c : Call) (t : Dest) → 1 ≤ code → decode code ws ≡ some c → t.kind ≡ queue → (call whole c t).refusal ≡ 0
    → blocks_gone code ws (call whole c t).dest (held_blocks t) (comes code ws) ≡ map left_block (departures c t (call whole c t).dest)

-- an acknowledgement that rejects something, and the letters that its own destination stores
abbrev pub AckAndLettersAreTold : Type 0
AckAndLettersAreTold =
    (ws : List ℕ) (i : Id) (a : Ack) (now low : ℕ) (t u : Dest) (es : List Entry)
    → decode 4 ws ≡ some (asking i (acknowledge a now))
    → t.kind ≡ queue
    → (rejected_by i a t ≡ [] → ⊥)
    → held_under low t
    → Rising low es
    → Makes (asking i (acknowledge a now) ∷ storings now es) t u
    → blocks_gone 4 ws u (held_blocks t) (map (block_at 0) es) ≡ map left_block (gone_along (asking i (acknowledge a now) ∷ storings now es) t)

-- the letters that another destination stores in an acknowledgement of any words
abbrev pub LettersAreToldOnce : Type 0
LettersAreToldOnce =
    (ws : List ℕ) (now low : ℕ) (t u : Dest) (es : List Entry)
    → t.kind ≡ queue
    → held_under low t
    → Rising low es
    → Makes (storings now es) t u
    → blocks_gone 4 ws u (held_blocks t) (map (block_at 0) es) ≡ map left_block (gone_along (storings now es) t)

-- ---- and of a whole call of a station

-- every accepted call but open, and every queue j of the station that holds only numbers that were given
abbrev pub OneLookTells : Type 0
OneLookTells =
    (lent : StationLengths) (k code : ℕ) (words : List ℕ) (s : Station)
    → 1 ≤ code
    → (station_step lent k code words s).refusal ≡ 0
    → (j : ℕ) (x y : StationSlot)
    → slot_of j s ≡ some x
    → slot_of j (station_step lent k code words s).station ≡ some y
    → x.dest.kind ≡ queue
    → held_under s.next x.dest
    → blocks_gone code (carried code words s) y.dest (held_blocks x.dest) (blocks_came j k code words s) ≡ map left_block (book_after j k code words s empty_book).gone

-- a queue that has a book holds only such numbers
abbrev pub BookedHoldsGiven : Type 0
BookedHoldsGiven = (j : ℕ) (b : Book) (s : Station) → Booked j b s → (x : StationSlot) → slot_of j s ≡ some x → (x.dest.kind ≡ queue) × held_under s.next x.dest

-- so its book is kept by one look after each accepted call, an open of another destination too: what left in the call comes after what had left
abbrev pub BooksByOneLook : Type 0
BooksByOneLook =
    (lent : StationLengths) (k code : ℕ) (words : List ℕ) (s : Station) (j : ℕ) (b : Book)
    → Booked j b s
    → (station_step lent k code words s).refusal ≡ 0
    -- an open of j itself begins a new book
    → (code ≡ 0 → k ≡ j → ⊥)
    → (x y : StationSlot)
    → slot_of j s ≡ some x
    → slot_of j (station_step lent k code words s).station ≡ some y
    → map left_block (book_after j k code words s b).gone ≡ map left_block b.gone ++ blocks_gone code (carried code words s) y.dest (held_blocks x.dest) (blocks_came j k code words s)

-- ---- how many

-- a sound station's call tells of at most 512 letters
abbrev pub ToldFew : Type 0
ToldFew = (k code : ℕ) (words : List ℕ) (s : Station) → station_sound s ≡ true → length (told_letters k code words s) ≤ 512
