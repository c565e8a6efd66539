-- A call with the account of a queue's blocks beside it, in two lent lists: those that the queue holds, and those that leave in the call. Assumes nothing.
use Rattle.std.specs.Prelude.{ℕ, ◌+◌, ◌≤◌, ◌≡◌, Bool, true, not, ◌&&◌, ◌||◌, List, [], ◌++◌, map, leb, ltb, eqb, length, take, drop}
use Rattle.entry.specs.Entry.{entry_of}
use Rattle.definition.specs.Base.{whether◌then◌else◌, keep, member}
use Rattle.definition.specs.Calls.{state_short, Result, refused}
use Rattle.definition.specs.Words.{at}
use Rattle.definition.specs.Layout.{Row, Buffers, sub_rows, used_rows, view, lengths_of, sound_buffers, buffer_step}
use Rattle.state.specs.declared.Head.{Head}
use Rattle.state.specs.State.{head_view}
use Rattle.calls.specs.declared.Call.{Call}
use Rattle.engine.specs.Called.{outcome, Called}
use Rattle.fates.specs.Blocks.{Block, block_at, held_blocks, account_of, went_as, comes, left_blocks}
use Rattle.report.specs.declared.Noted.{Noted}
use Rattle.report.specs.declared.Listed.{Listed}

-- a block is at the place of this number
abbrev pub is_at_place : ℕ → Block → Bool
is_at_place place b = eqb (at 1 b) place

-- ---- a call

-- 512 places for what is held, of which n are in use, and 513 for what leaves
unfoldable pub lists_short : ℕ → ℕ → ℕ → Bool
lists_short n held left = ltb held 512 || (ltb left 513 || ltb 512 n)

-- what a call gets with an event list and lists of so many places: 1 for short lists, too
unfoldable pub noted_step : Buffers → ℕ → ℕ → ℕ → ℕ → Call → Result
noted_step b events n held left c = whether lists_short n held left then refused 1 (view b) else buffer_step b events c.code c.words

abbrev pub is_accepted : Result → Bool
is_accepted q = eqb q.refusal 0

-- what the queue holds after an accepted call, and what left in it, where n blocks of a list were held before
abbrev pub holds_now : Result → List Block
holds_now q = account_of q.dest

abbrev pub leaves_now : Result → Call → ℕ → List Block → List Block
leaves_now q c n held = left_blocks c.code c.words q.dest (take n held)

-- a list with these blocks first, and after them what was there
abbrev pub list_with : List Block → List Block → List Block
list_with l bs = l ++ drop (length l) bs

-- the state, the events and the answer are those of the call; beside a refusal both lists are as they were
pub record NotedCall (q : Result) (c : Call) (n : ℕ) (b b' : Buffers) (events events' : List Row) (held held' left left' : List Block) (r : Noted) : Type 0 where
  pub called : Called q b b' events events' (outcome r.refusal r.answer r.events)
  pub held-count : r.held ≡ (whether is_accepted q then length (holds_now q) else n)
  pub left-count : r.left ≡ (whether is_accepted q then length (leaves_now q c n held) else 0)
  pub holds : held' ≡ (whether is_accepted q then list_with (holds_now q) held else held)
  pub leaves : left' ≡ (whether is_accepted q then list_with (leaves_now q c n held) left else left)
  pub held-few : q.refusal ≡ 0 → r.held ≤ 512
  pub left-few : r.left ≤ 513
  pub held-length : length held' ≡ length held
  pub left-length : length left' ≡ length left

-- ---- what a destination holds, for a host that takes over one that runs

-- 1 where the list has under 512 places or a buffer is short, 2 where the state is not sound, else 0
unfoldable pub held_refusal : Buffers → ℕ → ℕ
held_refusal b room =
    whether ltb room 512 || state_short (lengths_of b 0) then 1
    else whether sound_buffers b then 0
    else 2

unfoldable pub as_held : Buffers → ℕ → Listed
as_held b room = let r = held_refusal b room in record { refusal = r; count = whether eqb r 0 then length (account_of (view b)) else 0 }

unfoldable pub held_list : Buffers → List Block → List Block
held_list b bs = whether eqb (held_refusal b (length bs)) 0 then list_with (account_of (view b)) bs else bs

-- ---- the same of whatever words: the whole test of soundness is not made

-- two of the tests of `formed`: the consumers in use and the rows in use are within the tables
unfoldable pub counts_fit : Buffers → Bool
counts_fit b = leb (at 12 b.head) 32 && leb (used_rows b) 512

-- none where a list has under 512 places, a buffer is short, or the counts do not fit
unfoldable pub blocks_in : Buffers → ℕ → List Block
blocks_in b room =
    whether ltb room 512 || state_short (lengths_of b 0) then []
    else whether counts_fit b then account_of (view b)
    else []

-- ---- what leaves, of any two lists

-- its number is none of the blocks'
abbrev pub gone_from : List Block → Block → Bool
gone_from now b = not (member (at 0 b) (map (at 0) now))

-- those that leave, of a list, each with the place where it went
unfoldable pub leavers_of : ℕ → List ℕ → List Block → List Block → List Block
leavers_of code ws now bs = map (went_as code ws) (keep (gone_from now) bs)

-- a list of so many places has one for each block, from place start on
abbrev pub leavers_room : List Block → ℕ → ℕ → Bool
leavers_room bs start room = leb (start + length bs) room

-- what is put into such a list: without that room, nothing
unfoldable pub leavers_put : ℕ → List ℕ → List Block → List Block → ℕ → ℕ → List Block
leavers_put code ws now bs start room = whether leavers_room bs start room then leavers_of code ws now bs else []

-- ---- as the code goes

-- the block of a row
abbrev pub row_block : ℕ → Row → Block
row_block place w = block_at place (entry_of w)

-- those that leave, of a list and of the one that the call brought; none in an open
unfoldable pub all_leavers : ℕ → List ℕ → List Block → List Block → List Block
all_leavers code ws now bs = whether eqb code 0 then [] else leavers_of code ws now (bs ++ comes code ws)

-- the numbers of a queue, within the tables
pub record HeldNumbers (d : Head) (subs rows : List Row) : Type 0 where
  pub queue : d.queue ≡ true
  pub consumers : d.consumers ≤ length subs
  pub used : sub_rows (take d.consumers subs) + (d.reserved + d.waiting) ≡ d.used
  pub room : d.used ≤ length rows
  pub few : d.used ≤ 512

-- what is left in the lists beside a queue, and how many blocks are in use
pub record AccountKept (d : Head) (subs rows : List Row) (code : ℕ) (ws : List ℕ) (n : ℕ) (held held' left left' : List Block) (h l : ℕ) : Type 0 where
  pub held-count : h ≡ length (held_blocks (head_view d subs rows [] []))
  pub left-count : l ≡ length (all_leavers code ws (held_blocks (head_view d subs rows [] [])) (take n held))
  pub holds : held' ≡ list_with (held_blocks (head_view d subs rows [] [])) held
  pub leaves : left' ≡ list_with (all_leavers code ws (held_blocks (head_view d subs rows [] [])) (take n held)) left
  pub held-few : h ≤ 512
  pub left-few : l ≤ 513
