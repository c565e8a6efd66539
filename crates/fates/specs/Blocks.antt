-- The blocks of a queue, each a sequence number, the number of a place, and whether it is persistent: those that it holds, and those that leave in a call, told from the state
-- that the call leaves. Assumes nothing.
use Rattle.std.specs.Prelude.{ℕ, ◌+◌, ◌%◌, Bool, not, ◌&&◌, ◌||◌, List, [], ◌∷◌, ◌++◌, map, eqb}
use Rattle.definition.specs.Base.{whether◌then◌else◌, keep, member}
use Rattle.definition.specs.Types.{Entry, Dest}
use Rattle.definition.specs.Calls.{seqs, taken, held}
use Rattle.definition.specs.Queries.{is_queue}
use Rattle.definition.specs.Words.{at}
use Rattle.fates.specs.Fates.{rank, holding}
use Rattle.fates.specs.Account.{Place, waiting, in_flight, reserved, left}

-- ---- a block

abbrev pub Block : Type 0
Block = List ℕ

-- number, place, persistent
abbrev pub block_of : ℕ → ℕ → Bool → Block
block_of s p persistent = s ∷ p ∷ (whether persistent then 1 else 0) ∷ []

-- an entry at a place
abbrev pub block_at : ℕ → Entry → Block
block_at p e = block_of e.seq p e.persistent

-- the eight places: 0 waiting, 1 in flight, 2 reserved, 3 dequeued, 4 expired, 5 discarded, 6 dead-lettered, 7 cleared
abbrev pub place_number : Place → ℕ
place_number waiting = 0
place_number in_flight = 1
place_number reserved = 2
place_number (left f) = 3 + rank f

-- ---- what a queue holds

-- what waits, what is reserved, and what is in flight at consumers that are no browsers, as `holding` has them
abbrev pub held_blocks : Dest → List Block
held_blocks t = map (block_at 0) t.pending ++ (map (block_at 2) (held t) ++ map (block_at 1) (taken t.subs))

-- a topic has no account
unfoldable pub account_of : Dest → List Block
account_of t = whether is_queue t.kind then held_blocks t else []

-- ---- what leaves in a call

-- an acknowledgement's own removals, by the byte of its type
abbrev pub acked_as : ℕ → ℕ
acked_as k = whether eqb k 1 then 6 else whether eqb k 6 then 4 else 3

-- how a block leaves in a call of this code, with this word of an acknowledgement, if it waited or not
unfoldable pub leaves_as : ℕ → ℕ → Bool → ℕ
leaves_as code k waited =
    whether eqb code 10 then 7
    else whether eqb code 4 && not waited then acked_as (k % 256)
    else 4

-- an enqueue's block
abbrev pub comes : ℕ → List ℕ → List Block
comes code ws = whether eqb code 1 then block_of (at 0 ws) 0 (eqb (at 2 ws) 1) ∷ [] else []

-- a block that leaves, with the place where it goes
unfoldable pub went_as : ℕ → List ℕ → Block → Block
went_as code ws b = at 0 b ∷ leaves_as code (at 3 ws) (eqb (at 1 b) 0) ∷ at 2 b ∷ []

-- u does not hold its number
abbrev pub is_gone : Dest → Block → Bool
is_gone u b = not (member (at 0 b) (seqs (holding u)))

-- of the blocks before an accepted call that left u, and of the one that it brought, those that u does not hold; an open begins anew, and a topic has no account
unfoldable pub left_blocks : ℕ → List ℕ → Dest → List Block → List Block
left_blocks code ws u bs = whether eqb code 0 || not (is_queue u.kind) then [] else map (went_as code ws) (keep (is_gone u) (bs ++ comes code ws))
