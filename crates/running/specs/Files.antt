-- What a whole run prints, from the bytes of a call file; and what the library's functions do along the pieces of one. Assumes nothing.
use Rattle.std.specs.Prelude.{ℕ, ◌+◌, ◌-◌, ◌≤◌, ◌≡◌, Bool, true, false, not, ◌&&◌, ◌||◌, List, [], ◌∷◌, ◌++◌, eqb, leb, ltb, length, take, drop, replicate}
use Rattle.definition.specs.Base.{whether◌then◌else◌}
use Rattle.definition.specs.Types.{Stats}
use Rattle.definition.specs.Calls.{Lengths}
use Rattle.definition.specs.Layout.{Row, Buffers, stats_at, lengths_of, zero_buffers, zero_dest}
use Rattle.callfile.specs.declared.Reading.{Reading}
use Rattle.callfile.specs.declared.Took.{Took}
use Rattle.callfile.specs.Lines.{bad_line, counters_line}
use Rattle.callfile.specs.Placed.{PutLine}
use Rattle.callfile.specs.Cutting.{cut_blocks, Work, along_blocks, Stage, StepTaken, lacked, take_piece, inARow}
use Rattle.running.specs.Running.{LentState, lent_by, Run, Doing, each_of_block, run_call, Left}

-- ---- a whole file

-- between two blocks: the next call's index, and what it finds
pub record RunState (S : Type 0) : Type 0 where
  pub index : ℕ
  pub lent : S

module _ {S : Type 0} where
  abbrev pub after_run : Run S → RunState S
  after_run q = record { index = q.index; lent = q.lent }

  -- a block of a file
  unfoldable pub work_block : Doing S → Work (RunState S)
  work_block one block number s = let q = each_of_block one block s.index number s.lent in record { text = q.text; goes_on = q.goes_on; state = after_run q }

-- before any open: buffers of zeros. Their counts fit, so a call but open gets 2 for what they hold, which no open has made
unfoldable pub zero_state : LentState
zero_state = record {
  formed = true;
  dest = zero_dest;
  events = replicate 545 (replicate 6 0);
}

-- the lengths of the buffers that a run lends
abbrev pub run_lengths : Lengths
run_lengths = record { head = 8347; subs = 32; rows = 512; events = 545 }

-- the lines of its blocks, one after another, and last the counters
unfoldable pub run_file : List ℕ → List ℕ
run_file bytes = let d = along_blocks (work_block (run_call run_lengths)) (cut_blocks bytes) 0 (record { index = 0; lent = zero_state }) in d.text ++ counters_line d.state.lent.dest.stats

-- ---- a step on a piece

-- the block has 512 places and is not whole yet, and no block's lines, which have at most so many bytes, lack room
abbrev pub roomy : ℕ → Reading → List ℕ → List ℕ → Bool
roomy most at block out = eqb (length block) 512 && (ltb at.have 512 && leb most (length out))

module _ {S : Type 0} where
  -- the stage in lent buffers
  abbrev pub stage_at : Reading → List ℕ → S → Stage (RunState S)
  stage_at at block s = record { begun = take at.have block; number = at.number; goes_on = at.goes_on; state = record { index = at.index; lent = s } }

  -- without room reading ends
  abbrev pub heeding : Bool → Stage (RunState S) → Stage (RunState S)
  heeding ok g = record { begun = g.begun; number = g.number; goes_on = ok && g.goes_on; state = g.state }

  -- whether a call of it was accepted
  unfoldable pub step_changed : Doing S → List ℕ → Stage (RunState S) → Bool
  step_changed one rest g =
      let block = g.begun ++ lacked g.begun rest in
      g.goes_on && (not (ltb (length block) 512) && (each_of_block one block g.state.index g.number g.state.lent).changed)

  -- the answer: in a block that took no bytes there are as many as before
  abbrev pub took_as : Bool → Reading → ℕ → StepTaken (RunState S) → Took
  took_as goes at from p = record {
    reading = record {
      have = whether goes then length p.stage.begun else at.have;
      number = p.stage.number;
      index = p.stage.state.index;
      goes_on = p.stage.goes_on;
    };
    next = from + p.used;
    written = length p.text;
  }

-- the block, in which the bytes that it lacked stand behind those that it had
abbrev pub block_as : Bool → ℕ → List ℕ → List ℕ → List ℕ
block_as goes have rest block = whether goes then take have block ++ (lacked (take have block) rest ++ drop (have + length (lacked (take have block) rest)) block) else block

-- the answer where nothing was taken
unfoldable pub unread_as : Reading → ℕ → ℕ → Took
unread_as at from len = record { reading = record { have = at.have; number = at.number; index = at.index; goes_on = false }; next = from + (len - from); written = 0 }

-- and where a block is not whole yet
abbrev pub begun_as : Reading → ℕ → ℕ → Took
begun_as at have next = record { reading = record { have = have; number = at.number; index = at.index; goes_on = true }; next = next; written = 0 }

-- what a step p leaves: the answer, the block and the text
pub record TookStep (S : Type 0) (p : StepTaken (RunState S)) (goes : Bool) (at : Reading) (rest : List ℕ) (from : ℕ) (block block' out out' : List ℕ) (r : Took) : Type 0 where
  pub answer : r ≡ took_as goes at from p
  pub bytes : block' ≡ block_as goes at.have rest block
  pub text : out' ≡ p.text ++ drop (length p.text) out

-- and the state; what is open is what `Left` leaves open
pub record Takes (p : StepTaken (RunState LentState)) (changed goes : Bool) (at : Reading) (rest : List ℕ) (from : ℕ) (b b' : Buffers) (events events' : List Row) (block block' out out' : List ℕ) (r : Took) : Type 0 where
  pub taken : TookStep LentState p goes at rest from block block' out out' r
  pub shows : lent_by b' events' ≡ p.stage.state.lent
  pub left : Left changed b b' events events'

-- on what is left of a piece from place `from` on
abbrev pub TakesPiece : Reading → List ℕ → ℕ → Buffers → Buffers → List Row → List Row → List ℕ → List ℕ → List ℕ → List ℕ → Took → Type 0
TakesPiece at piece from b b' events events' block block' out out' r =
    let one = run_call (lengths_of b (length events)) in
    let g = heeding (roomy 489216 at block out) (stage_at at block (lent_by b events)) in
    Takes (take_piece (work_block one) (drop from piece) g) (step_changed one (drop from piece) g) g.goes_on at (drop from piece) from b b' events events' block block' out out' r

-- ---- the end

-- a block was begun, or could not be read
abbrev pub is_unfinished : Reading → Bool → Bool
is_unfinished at failed = at.goes_on && (failed || not (eqb at.have 0))

-- that is a bad one
unfoldable pub rest_line : Reading → Bool → List ℕ
rest_line at failed = whether is_unfinished at failed then bad_line at.number else []

-- then the counters
unfoldable pub last_lines : Reading → Bool → Stats → List ℕ
last_lines at failed s = rest_line at failed ++ counters_line s

-- ---- along pieces

-- what stands in the lent buffers between two calls of the library
pub record Between : Type 0 where
  pub at : Reading
  pub lent : Buffers
  pub events : List Row
  pub block : List ℕ

-- before the first
unfoldable pub at_start : Between
at_start = record {
  at = record { have = 0; number = 0; index = 0; goes_on = true };
  lent = zero_buffers;
  events = replicate 545 (replicate 6 0);
  block = replicate 512 0;
}

-- the bytes that the library has written at last, along what is left of a piece and the pieces after it: `run_piece` for each place that the one
-- before has left, into any text that has room, and `run_end` once no piece is left or reading has ended
pub data Writes : List (List ℕ) → Between → List ℕ → Type 0 where
  last : {pieces : List (List ℕ)} {m : Between} (out out' : List ℕ) (r : ℕ) → pieces ≡ [] → 256 ≤ length out → PutLine 256 (last_lines m.at false (stats_at m.lent.head)) 0 out r out' → Writes pieces m (take r out')
  ended : {pieces : List (List ℕ)} {m : Between} (out out' : List ℕ) (r : ℕ) → m.at.goes_on ≡ false → 256 ≤ length out → PutLine 256 (last_lines m.at false (stats_at m.lent.head)) 0 out r out' → Writes pieces m (take r out')
  used-up : {pieces : List (List ℕ)} {m : Between} {text : List ℕ} → Writes pieces m text → Writes ([] ∷ pieces) m text
  step : {rest : List ℕ} {pieces : List (List ℕ)} {m m' : Between} {text : List ℕ} (piece : List ℕ) (from : ℕ) (out out' : List ℕ) (r : Took)
      → rest ≡ drop from piece
      → 489216 ≤ length out
      → TakesPiece m.at piece from m.lent m'.lent m.events m'.events m.block m'.block out out' r
      → m'.at ≡ r.reading
      → Writes (drop r.next piece ∷ pieces) m' text
      → Writes (rest ∷ pieces) m (take r.written out' ++ text)

-- from buffers of zeros, wherever the file is cut, that is what a run of it prints
unfoldable pub RunsAlong : Type 0
RunsAlong = (pieces : List (List ℕ)) (text : List ℕ) → Writes pieces at_start text → text ≡ run_file (inARow pieces)
