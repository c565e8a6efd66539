-- A run that has every fate an entry of a queue can have, one with an allowance and a release in halves, and one with calls before the first open and topics between,
-- as words of the call file, with what their reports and their books say; antt computes them. Assumes nothing.
use Rattle.std.specs.Prelude.{ℕ, ◌+◌, Bool, List, [], ◌∷◌, ◌++◌, map, T}
use Rattle.std.proofs.Math.Option.{Option, none, some}
use Rattle.words.specs.Pick.{same_numbers}
use Rattle.definition.specs.Base.{whether◌then◌else◌, keep, every}
use Rattle.definition.specs.Types.{Dest, Event, letter, message, null}
use Rattle.definition.specs.Consumer.{consumer_open}
use Rattle.definition.specs.Destination.{destination_open}
use Rattle.definition.specs.Calls.{Call, calls_open}
use Rattle.definition.specs.Words.{decode, words_open}
use Rattle.definition.specs.Layout.{zero_dest}
use Rattle.definition.specs.Orders.{Lent, result}
use Rattle.fates.specs.Fates.{dequeued, expired, discarded, dead_lettered, cleared, removal, fate_by, leavers, departures}
use Rattle.fates.specs.Account.{Place, waiting, in_flight, reserved, left, left_as, numbers_at}
use Rattle.fates.specs.Report.{Ledger, report}
use Rattle.fates.specs.Blocks.{Block, account_of, leaves_as, went_as, left_blocks}
use Rattle.fates.specs.Books.{along, letter_of, cause_of}

abbrev lent : ℕ → List ℕ → Lent
lent code words = record { code = code; words = words; lengths = record { head = 8347; subs = 32; rows = 512; events = 545 } }

-- sequence, expiration, persistent
abbrev enqueues : ℕ → ℕ → ℕ → Lent
enqueues s ex p = lent 1 (s ∷ ex ∷ p ∷ 7 ∷ 0 ∷ 0 ∷ 1 ∷ 0 ∷ [])

-- type and flags, first, last
abbrev acks : ℕ → ℕ → ℕ → Lent
acks k first last = lent 4 (9 ∷ 1 ∷ 1 ∷ k ∷ first ∷ last ∷ 31 ∷ 0 ∷ [])

-- connection, prefetch, flags, clock
abbrev joins : ℕ → ℕ → ℕ → ℕ → Lent
joins c p f now = lent 2 (c ∷ 1 ∷ 1 ∷ p ∷ 64 ∷ f ∷ now ∷ 0 ∷ [])

abbrev opens : ℕ → Lent
opens kind = lent 0 (kind ∷ 0 ∷ 100 ∷ 0 ∷ 0 ∷ 0 ∷ 0 ∷ 0 ∷ [])

abbrev start : Ledger
start = record { accepted = []; gone = []; dest = zero_dest }

-- up to the last acknowledgement
abbrev calls : List Lent
calls =
    lent 0 (0 ∷ 0 ∷ 100 ∷ 0 ∷ 0 ∷ 0 ∷ 0 ∷ 0 ∷ [])
    ∷ enqueues 1 20 1
    ∷ enqueues 2 0 1
    ∷ enqueues 3 0 0
    ∷ enqueues 4 0 1
    ∷ enqueues 5 0 1
    ∷ enqueues 6 0 1
    ∷ enqueues 7 0 1
    ∷ enqueues 8 0 1
    -- 5 is held: refused
    ∷ enqueues 5 0 1
    -- 1 has expired; 2 to 6 go out
    ∷ joins 9 5 0 30
    -- INDIVIDUAL 2; 7 goes out
    ∷ acks (4 + 1024) 0 2
    -- POISON 3 and 4, of which 3 is not persistent; 8 goes out
    ∷ acks (1 + 512 + 1024) 3 4
    -- EXPIRED 5
    ∷ acks (6 + 512 + 1024) 5 5
    -- INDIVIDUAL 6 in a transaction
    ∷ acks (4 + 256 + 512 + 1024) 6 6
    ∷ []

-- the consumer leaves: 6 is reserved, 7 and 8 return; a browser is shown both, and a consumer with room for one takes 7
abbrev later : List Lent
later = calls ++ (lent 3 (9 ∷ 1 ∷ 1 ∷ 0 ∷ 40 ∷ 0 ∷ 0 ∷ 0 ∷ []) ∷ joins 8 5 2 41 ∷ joins 10 1 0 42 ∷ [])

abbrev wiped : List Lent
wiped = later ++ (lent 10 (0 ∷ 0 ∷ 0 ∷ 0 ∷ 0 ∷ 0 ∷ 0 ∷ 0 ∷ []) ∷ [])

-- with an allowance of 10: 1, with expiration 20, goes out at 25 with 2; a transacted INDIVIDUAL from 1 to 2 marks 2 alone, so 1 returns at 29 and 2 is reserved
abbrev slow : List Lent
slow =
    lent 0 (0 ∷ 0 ∷ 100 ∷ 0 ∷ 10 ∷ 0 ∷ 0 ∷ 0 ∷ [])
    ∷ enqueues 1 20 1
    ∷ enqueues 2 0 1
    ∷ joins 9 5 0 25
    ∷ acks (4 + 256 + 512 + 1024) 1 2
    ∷ lent 3 (9 ∷ 1 ∷ 1 ∷ 0 ∷ 29 ∷ 0 ∷ 0 ∷ 0 ∷ [])
    ∷ lent 9 (29 ∷ 5 ∷ 0 ∷ 0 ∷ 0 ∷ 0 ∷ 0 ∷ 0 ∷ [])
    ∷ []

-- a sweep at 30 takes 1, and the second half of a release returns 2
abbrev swept : List Lent
swept = slow ++ (lent 9 (30 ∷ 5 ∷ 0 ∷ 0 ∷ 0 ∷ 0 ∷ 0 ∷ 0 ∷ []) ∷ lent 15 (9 ∷ 1 ∷ 1 ∷ 30 ∷ 0 ∷ 0 ∷ 0 ∷ 0 ∷ []) ∷ [])

-- 2 is marked once more; the first half of a release clears the mark, so 2 returns as its consumer leaves
abbrev freed : List Lent
freed = swept ++ (joins 9 5 0 30 ∷ acks (4 + 256 + 1024) 0 2 ∷ lent 8 (9 ∷ 1 ∷ 1 ∷ 0 ∷ 0 ∷ 0 ∷ 0 ∷ 0 ∷ []) ∷ lent 3 (9 ∷ 1 ∷ 1 ∷ 0 ∷ 32 ∷ 0 ∷ 0 ∷ 0 ∷ []) ∷ [])

-- with a consumer there, 1 is gone in the call that brings it
abbrev brief : List Lent
brief = opens 0 ∷ joins 9 5 0 1 ∷ enqueues 1 1 1 ∷ []

-- 1 goes out and 2 waits; as 1 is acknowledged at 31, 2 has expired
abbrev late : List Lent
late = opens 0 ∷ enqueues 1 0 1 ∷ enqueues 2 20 0 ∷ joins 9 1 0 1 ∷ acks (1 + 512 + 1024) 1 1 ∷ []

-- nothing is open yet, and then a topic
abbrev early : List Lent
early = enqueues 1 0 1 ∷ joins 9 5 0 1 ∷ opens 1 ∷ enqueues 1 0 1 ∷ joins 9 5 0 1 ∷ enqueues 2 0 1 ∷ acks (4 + 1024) 0 2 ∷ enqueues 6 0 1 ∷ []

-- a queue, whose second 3 is refused; a sweep at 30 takes 3
abbrev again : List Lent
again = early ++ (opens 0 ∷ enqueues 3 20 1 ∷ enqueues 3 0 1 ∷ enqueues 4 0 0 ∷ lent 9 (30 ∷ 5 ∷ 0 ∷ 0 ∷ 0 ∷ 0 ∷ 0 ∷ 0 ∷ []) ∷ [])

-- 3 is enqueued once more
abbrev reused : List Lent
reused = again ++ (enqueues 3 0 0 ∷ [])

abbrev closed : List Lent
closed = reused ++ (opens 1 ∷ enqueues 5 0 1 ∷ [])

-- the numbers in the eight places
abbrev says : List Lent → List ℕ → List ℕ → List ℕ → List ℕ → List ℕ → List ℕ → List ℕ → List ℕ → Bool
says l a b c d e f g h =
    let r = report l start in
    let there : Place → List ℕ → Bool = λ p m. same_numbers (numbers_at p r.gone r.dest) m in
    every (there waiting a ∷ there in_flight b ∷ there reserved c ∷ there (left dequeued) d ∷ there (left expired) e ∷ there (left discarded) f ∷ there (left dead_lettered) g ∷ there (left cleared) h ∷ [])

-- enqueued, dequeued, expired, discarded
abbrev counts : List Lent → List ℕ → Bool
counts l m = let c = (report l start).dest.stats in same_numbers (c.enqueued ∷ c.dequeued ∷ c.expired ∷ c.discarded ∷ []) m

-- a persistent block, and one that is not
abbrev lasting : ℕ → ℕ → Block
lasting s p = s ∷ p ∷ 1 ∷ []

abbrev fleeting : ℕ → ℕ → Block
fleeting s p = s ∷ p ∷ 0 ∷ []

abbrev in_row : List Block → List ℕ
in_row [] = []
in_row (b ∷ bs) = b ++ in_row bs

-- what the books hold and what left, from a destination that is not open and blocks that are none of its
abbrev keeps : List Lent → List Block → List Block → Bool
keeps l h g =
    let r = along l (record { dest = zero_dest; held = lasting 70 0 ∷ []; left = lasting 71 3 ∷ [] }) in
    every (same_numbers (in_row r.held) (in_row h) ∷ same_numbers (in_row r.left) (in_row g) ∷ [])

-- the dead letters among these, each a number and whether the cause is the client's
abbrev letters_in : List Event → List ℕ
letters_in [] = []
letters_in (letter s redelivery cause ∷ es) = s ∷ (whether cause then 1 else 0) ∷ letters_in es
letters_in (message i s redelivery ∷ es) = letters_in es
letters_in (null i ∷ es) = letters_in es

-- those that `LettersAreSent` asks for
abbrev asked : Dest → Dest → Option Call → List Event
asked t u none = []
asked t u (some c) = map (letter_of (cause_of t c)) (keep (λ e. e.persistent) (left_as dead_lettered (departures c t u)))

-- the call k after the calls l sends these and is asked for these
abbrev writes : List Lent → Lent → List ℕ → Bool
writes l k m =
    let t = (report l start).dest in
    every (same_numbers (letters_in (result k t).events) m ∷ same_numbers (letters_in (asked t (result k t).dest (decode k.code k.words))) m ∷ [])

cases : List Bool
cases =
    says calls [] (6 ∷ 7 ∷ 8 ∷ []) [] (2 ∷ []) (1 ∷ 5 ∷ []) [] (3 ∷ 4 ∷ []) []
    ∷ counts calls (8 ∷ 1 ∷ 2 ∷ 1 ∷ [])
    ∷ says later (8 ∷ []) (7 ∷ []) (6 ∷ []) (2 ∷ []) (1 ∷ 5 ∷ []) [] (3 ∷ 4 ∷ []) []
    ∷ says wiped [] [] [] (2 ∷ []) (1 ∷ 5 ∷ []) [] (3 ∷ 4 ∷ []) (8 ∷ 6 ∷ 7 ∷ [])
    ∷ counts wiped (8 ∷ 1 ∷ 2 ∷ 1 ∷ [])
    ∷ says slow (1 ∷ []) [] (2 ∷ []) [] [] [] [] []
    ∷ says swept (2 ∷ []) [] [] [] (1 ∷ []) [] [] []
    ∷ says freed (2 ∷ []) [] [] [] (1 ∷ []) [] [] []
    ∷ counts freed (2 ∷ 0 ∷ 1 ∷ 0 ∷ [])
    ∷ keeps calls (lasting 6 1 ∷ lasting 7 1 ∷ lasting 8 1 ∷ []) (lasting 1 4 ∷ lasting 2 3 ∷ fleeting 3 6 ∷ lasting 4 6 ∷ lasting 5 4 ∷ [])
    ∷ keeps later (lasting 8 0 ∷ lasting 6 2 ∷ lasting 7 1 ∷ []) (lasting 1 4 ∷ lasting 2 3 ∷ fleeting 3 6 ∷ lasting 4 6 ∷ lasting 5 4 ∷ [])
    ∷ keeps wiped [] (lasting 1 4 ∷ lasting 2 3 ∷ fleeting 3 6 ∷ lasting 4 6 ∷ lasting 5 4 ∷ lasting 8 7 ∷ lasting 6 7 ∷ lasting 7 7 ∷ [])
    ∷ keeps slow (lasting 1 0 ∷ lasting 2 2 ∷ []) []
    ∷ keeps freed (lasting 2 0 ∷ []) (lasting 1 4 ∷ [])
    ∷ keeps brief [] (lasting 1 4 ∷ [])
    ∷ keeps late [] (fleeting 2 4 ∷ lasting 1 6 ∷ [])
    ∷ keeps (enqueues 1 0 1 ∷ []) (lasting 70 0 ∷ []) (lasting 71 3 ∷ [])
    ∷ keeps early [] []
    ∷ keeps again (fleeting 4 0 ∷ []) (lasting 3 4 ∷ [])
    ∷ keeps reused (fleeting 3 0 ∷ fleeting 4 0 ∷ []) (lasting 3 4 ∷ [])
    ∷ keeps closed [] []
    -- POISON with a cause: of 6 and 7 in flight, and of 6 reserved
    ∷ writes calls (acks (1 + 512 + 1024 + 2048) 6 7) (6 ∷ 1 ∷ 7 ∷ 1 ∷ [])
    ∷ writes later (acks (1 + 512 + 1024 + 2048) 6 7) (6 ∷ 0 ∷ [])
    ∷ []

all_right : T (every cases)
unfolding cases consumer_open destination_open calls_open words_open removal fate_by leavers account_of leaves_as went_as left_blocks
all_right = tt
