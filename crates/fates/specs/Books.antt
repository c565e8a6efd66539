-- The blocks of a queue along calls, those that it holds and those that left, and what is claimed of them. Assumes nothing.
use Rattle.std.specs.Prelude.{ℕ, ◌+◌, ◌≤◌, ◌≡◌, Bool, true, false, ◌&&◌, List, [], ◌∷◌, ◌++◌, map, eqb, length}
use Rattle.std.proofs.Math.Option.{some}
use Rattle.definition.specs.Base.{whether◌then◌else◌, keep, tally, find, nth, is_some, member}
use Rattle.definition.specs.Types.{queue, topic, Id, Entry, Dest, Event, letter, message, null, with_redelivery}
use Rattle.definition.specs.Destination.{sub_of}
use Rattle.definition.specs.Calls.{Lengths, sound, Request, acknowledge, pulling, timed_out, prefetching, Call, enqueuing, joining, leaving, asking, unmarking, releasing, sweeping, clearing, adding, removing, testing, forgetting, discarding, missing, seqs}
use Rattle.definition.specs.Words.{at, decode, step}
use Rattle.definition.specs.Orders.{Lent, result}
use Rattle.fates.specs.Fates.{dead_lettered, rank, Departure, departures}
use Rattle.fates.specs.Account.{Account, Place, left_as, entries_at, numbers_at}
use Rattle.fates.specs.Report.{Ledger, report, Fitting}
use Rattle.fates.specs.Blocks.{Block, block_at, place_number, held_blocks, account_of, left_blocks}

-- ---- the books

-- an entry that left, where it went
abbrev pub left_block : Departure → Block
left_block d = block_at (3 + rank d.fate) d.entry

-- a destination, the blocks that it holds, and those that left since its latest accepted open
pub record Books : Type 0 where
  pub dest : Dest
  pub held : List Block
  pub left : List Block

-- after an accepted call that left u: what leaves in it comes after what had left; an open begins anew
abbrev pub booked : Lent → Dest → Books → Books
booked k u b = record { dest = u; held = account_of u; left = (whether eqb k.code 0 then [] else b.left) ++ left_blocks k.code k.words u b.held }

-- a refused one changes nothing
abbrev pub books_next : Lent → Books → Books
books_next k b = whether eqb (result k b.dest).refusal 0 then booked k (result k b.dest).dest b else b

abbrev pub along : List Lent → Books → Books
along [] b = b
along (k ∷ ks) b = along ks (books_next k b)

-- those of an account
abbrev pub books_of : Ledger → Books
books_of g = record { dest = g.dest; held = held_blocks g.dest; left = map left_block g.gone }

abbrev pub all_blocks : List Departure → Dest → List Block
all_blocks l t = held_blocks t ++ map left_block l

-- ---- the books are the account's

-- of any queue, what leaves in an accepted call, in order: the blocks before it and the state that it leaves say it all
abbrev pub BlocksLeave : Type 0
BlocksLeave =
    (lent : Lengths) (code : ℕ) (words : List ℕ) (c : Call) (t : Dest) → t.kind ≡ queue → 1 ≤ code → decode code words ≡ some c → (step lent code words t).refusal ≡ 0
    → let u = (step lent code words t).dest in left_blocks code words u (held_blocks t) ≡ map left_block (departures c t u)

-- along any list of calls, refused ones too, with only queues opened and new numbers enqueued
abbrev pub BooksAreTheReport : Type 0
BooksAreTheReport = (l : List Lent) (g : Ledger) → Account g.accepted g.gone g.dest → Fitting l g → along l (books_of g) ≡ books_of (report l g)

-- whatever the books were, and whatever calls came before: from an accepted open of a queue they are those of the report, and that is an account
abbrev pub FromTheOpen : Type 0
FromTheOpen =
    (before after : List Lent) (k : Lent) (b : Books) → k.code ≡ 0
    → let u = result k (along before b).dest in u.refusal ≡ 0 → u.dest.kind ≡ queue
    → let g : Ledger = record { accepted = []; gone = []; dest = u.dest } in Fitting after g
    → let r = report after g in (along (before ++ k ∷ after) b ≡ books_of r) × Account r.accepted r.gone r.dest

-- from an accepted open on, whatever calls came before and come after: as long as the destination is a topic, there are no blocks
abbrev pub TopicKeepsNone : Type 0
TopicKeepsNone =
    (before after : List Lent) (k : Lent) (b : Books) → k.code ≡ 0 → (result k (along before b).dest).refusal ≡ 0
    → let r = along (before ++ k ∷ after) b in r.dest.kind ≡ topic → (r.held ≡ []) × (r.left ≡ [])

-- ---- how many

-- a sound state has at most 512 blocks, and at most one more leaves in a call
abbrev pub BlocksAreFew : Type 0
BlocksAreFew = (t : Dest) → sound t ≡ true → (length (account_of t) ≤ 512) × ((code : ℕ) (words : List ℕ) (u : Dest) → length (left_blocks code words u (account_of t)) ≤ 513)

-- ---- what the blocks say

-- so many blocks say a place as there are entries
abbrev pub TotalsAreTheParts : Type 0
TotalsAreTheParts = (l : List Departure) (t : Dest) (p : Place) → tally (λ b. eqb (at 1 b) (place_number p)) (all_blocks l t) ≡ length (entries_at p l t)

-- one block has the number of an accepted entry, and none any other number
abbrev pub OneBlockEach : Type 0
OneBlockEach = (a : List Entry) (l : List Departure) (t : Dest) → Account a l t → (s : ℕ) → tally (λ b. eqb s (at 0 b)) (all_blocks l t) ≡ (whether member s (seqs a) then 1 else 0)

-- each block has the number and the persistence of an accepted entry, and its number is in the place that it says
abbrev pub BlocksAreRight : Type 0
BlocksAreRight =
    (a : List Entry) (l : List Departure) (t : Dest) → Account a l t → (i : ℕ) (b : Block) → nth i (all_blocks l t) ≡ some b
    → (p : Place) × (f : Entry) × (find (λ g. eqb g.seq (at 0 b)) a ≡ some f) × (b ≡ block_at (place_number p) f) × (member (at 0 b) (numbers_at p l t) ≡ true)

-- ---- what the entries say

-- what stands in a place is the accepted entry with its number, redelivery apart
abbrev pub FieldsStay : Type 0
FieldsStay =
    (a : List Entry) (l : List Departure) (t : Dest) → Account a l t
    → (p : Place) (i : ℕ) (e : Entry) → nth i (entries_at p l t) ≡ some e
    → (f : Entry) × (find (λ g. eqb g.seq e.seq) a ≡ some f) × (with_redelivery e.redelivery f ≡ e)

-- ---- dead letters

-- an `x`
abbrev pub is_letter : Event → Bool
is_letter (letter s redelivery cause) = true
is_letter (message i s redelivery) = false
is_letter (null i) = false

abbrev pub letter_of : Bool → Entry → Event
letter_of cause e = letter e.seq e.redelivery cause

-- the cause that a request gives; what was reserved for a consumer that has left has the default
abbrev pub cause_in : Id → Dest → Request → Bool
cause_in i t (acknowledge a now) = is_some (sub_of i t) && a.cause
cause_in i t (pulling timeout now) = false
cause_in i t (timed_out generation) = false
cause_in i t (prefetching p now) = false

abbrev pub cause_of : Dest → Call → Bool
cause_of t (asking i q) = cause_in i t q
cause_of t (enqueuing e now) = false
cause_of t (joining p now) = false
cause_of t (leaving i last now) = false
cause_of t (unmarking i) = false
cause_of t (releasing i now) = false
cause_of t (sweeping now most) = false
cause_of t clearing = false
cause_of t (adding i) = false
cause_of t (removing i now) = false
cause_of t (testing i q) = false
cause_of t (forgetting conn) = false
cause_of t discarding = false
cause_of t missing = false

-- the `x` of an accepted call of a queue are the persistent ones that it dead-letters, in order, each with its number, its redelivery and the call's cause
abbrev pub LettersAreSent : Type 0
LettersAreSent =
    (lent : Lengths) (code : ℕ) (words : List ℕ) (c : Call) (t : Dest) → t.kind ≡ queue → 1 ≤ code → decode code words ≡ some c → (step lent code words t).refusal ≡ 0
    → let r = step lent code words t in keep is_letter r.events ≡ map (letter_of (cause_of t c)) (keep (λ e. e.persistent) (left_as dead_lettered (departures c t r.dest)))
