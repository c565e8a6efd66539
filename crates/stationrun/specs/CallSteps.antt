-- A call file taken a call at a time: a block that is whole stays until its calls are done, one in each step. What is done with a call is the program's
-- own. Assumes nothing.
use Rattle.std.specs.Prelude.{ℕ, ◌+◌, ◌≤◌, ◌<◌, ◌≡◌, Bool, true, false, ◌&&◌, ◌||◌, List, [], ◌∷◌, ◌++◌, eqb, leb, ltb, length, take, drop}
use Rattle.definition.specs.Base.{whether◌then◌else◌}
use Rattle.stats.specs.Counted.{more}
use Rattle.callfile.specs.declared.Reading.{Reading}
use Rattle.callfile.specs.declared.Took.{Took}
use Rattle.callfile.specs.Blocks.{calls_in, call_at}
use Rattle.callfile.specs.Lines.{bad_line}
use Rattle.callfile.specs.Cutting.{Stage, StepTaken, lacked}
use Rattle.running.specs.Running.{Turned, Doing}
use Rattle.running.specs.Files.{RunState, stage_at, heeding, took_as, block_as}
use Rattle.stationrun.specs.declared.StationReading.{StationReading}
use Rattle.stationrun.specs.declared.StationTook.{StationTook}

-- ---- a step

-- what was printed, the bytes used up and the stage; how many calls of the stage's block are done; whether a call was accepted
pub record CallStep (S : Type 0) : Type 0 where
  pub taken : StepTaken (RunState S)
  pub run : ℕ
  pub changed : Bool

module _ {S : Type 0} where
  -- a step without a call, and with one
  abbrev pub no_call : List ℕ → ℕ → Stage (RunState S) → ℕ → CallStep S
  no_call text used g run = record { taken = record { text = text; used = used; stage = g }; run = run; changed = false }

  abbrev pub did_call : Turned S → Stage (RunState S) → ℕ → CallStep S
  did_call t g run = record { taken = record { text = t.text; used = 0; stage = g }; run = run; changed = t.changed }

  -- the block has these bytes; a call of it is done; it is over, and the next one has the next number
  abbrev pub block_has : List ℕ → Stage (RunState S) → Stage (RunState S)
  block_has block g = record { begun = block; number = g.number; goes_on = g.goes_on; state = g.state }

  abbrev pub call_done : Turned S → Stage (RunState S) → Stage (RunState S)
  call_done t g = record { begun = g.begun; number = g.number; goes_on = true; state = record { index = more g.state.index; lent = t.lent } }

  abbrev pub block_over : Bool → Stage (RunState S) → Stage (RunState S)
  block_over goes g = record { begun = []; number = more g.number; goes_on = goes; state = g.state }

module _ {S : Type 0} (one : Doing S) where
  -- the call of that number, from 0, of a block that is whole; where there is none, as in a bad one, the bad block's line, and reading ends
  unfoldable pub next_call : ℕ → Stage (RunState S) → CallStep S
  next_call run g =
      let count = calls_in g.begun (length g.begun) in
      let t = one g.state.index (call_at run g.begun) g.state.lent in
      whether leb count run then no_call (bad_line g.number) 0 (block_over false g) 0
      else whether ltb (run + 1) count then did_call t (call_done t g) (run + 1)
      else did_call t (block_over true (call_done t g)) 0

  -- a step on what is left of a piece: bytes for a block that is not whole, else a call of it. Where reading has ended, all bytes are used up
  unfoldable pub step_file : List ℕ → ℕ → Stage (RunState S) → CallStep S
  step_file rest run g =
      let t = lacked g.begun rest in
      whether g.goes_on then (whether ltb (length g.begun) 512 then no_call [] (length t) (block_has (g.begun ++ t) g) 0 else next_call run g)
      else no_call [] (length rest) g run

-- ---- in lent buffers

-- the block has 512 places and no more bytes, and no call's lines, which have at most so many bytes, lack room
abbrev pub step_roomy : ℕ → Reading → List ℕ → List ℕ → Bool
step_roomy most at block out = eqb (length block) 512 && (leb at.have 512 && leb most (length out))

-- a step is to be done: reading goes on, and the block is whole or bytes are left
abbrev pub step_due : StationReading → ℕ → ℕ → Bool
step_due at from len = at.reading.goes_on && (eqb at.reading.have 512 || ltb from len)

-- an answer, with the calls that are done
abbrev pub with_run : Took → ℕ → StationTook
with_run t run = record { reading = record { reading = t.reading; run = run }; next = t.next; written = t.written }

-- what a step p leaves: the answer and the text
pub record TookCall (S : Type 0) (p : CallStep S) (goes : Bool) (at : StationReading) (from : ℕ) (out out' : List ℕ) (r : StationTook) : Type 0 where
  pub answer : r ≡ with_run (took_as goes at.reading from p.taken) p.run
  pub text : out' ≡ p.taken.text ++ drop (length p.taken.text) out

-- and what the program's own buffers hold then, and what it keeps of them, by whether a call was accepted
pub record CallStepped (S : Type 0) (p : CallStep S) (goes : Bool) (at : StationReading) (from : ℕ) (s' : S) (Keeps : Bool → Type 0) (out out' : List ℕ) (r : StationTook) : Type 0 where
  pub took : TookCall S p goes at from out out' r
  pub shows : s' ≡ p.taken.stage.state.lent
  pub left : Keeps p.changed

-- and the block
pub record CallTakes (S : Type 0) (p : CallStep S) (goes : Bool) (at : StationReading) (rest : List ℕ) (from : ℕ) (s' : S) (Keeps : Bool → Type 0) (block block' out out' : List ℕ) (r : StationTook) : Type 0 where
  pub stepped : CallStepped S p goes at from s' Keeps out out' r
  pub bytes : block' ≡ block_as goes at.reading.have rest block

-- on what is left of a piece from place `from` on; where the program's own buffers are not fit, as where there is no room, nothing is taken
abbrev pub TakesCallStep : {S : Type 0} → Doing S → ℕ → Bool → StationReading → List ℕ → ℕ → S → S → (Bool → Type 0) → List ℕ → List ℕ → List ℕ → List ℕ → StationTook → Type 0
TakesCallStep {S} one most fit at piece from s s' Keeps block block' out out' r =
    let g = heeding (fit && step_roomy most at.reading block out) (stage_at at.reading block s) in
    CallTakes S (step_file one (drop from piece) at.run g) g.goes_on at (drop from piece) from s' Keeps block block' out out' r

-- ---- the parts of a step

-- the reading at the next block
abbrev pub next_block : StationReading → ℕ → Bool → StationReading
next_block at index on = record { reading = record { have = 0; number = more at.reading.number; index = index; goes_on = on }; run = 0 }

-- the reading after a call of a block of so many
abbrev pub reading_after : StationReading → ℕ → StationReading
reading_after at count =
    let index = more at.reading.index in
    whether ltb (at.run + 1) count then record { reading = record { have = 512; number = at.reading.number; index = index; goes_on = true }; run = at.run + 1 }
    else next_block at index true

-- the answer where the block has no such call
abbrev pub ended_as : StationReading → ℕ → ℕ → StationTook
ended_as at from written = record { reading = next_block at at.reading.index false; next = from; written = written }

module _ {S : Type 0} where
  -- the stage in lent buffers, where the block is whole
  abbrev pub whole_at : StationReading → List ℕ → S → Stage (RunState S)
  whole_at at block s = record { begun = block; number = at.reading.number; goes_on = true; state = record { index = at.reading.index; lent = s } }

-- ---- along pieces

-- before the first byte
abbrev pub none_read : StationReading
none_read = record { reading = record { have = 0; number = 0; index = 0; goes_on = true }; run = 0 }

-- the bytes that a program has written at last, along what is left of a piece and the pieces after it: a step for each place that the one before has left, into any
-- text of `most` bytes or more, and the end, into one of `last` or more, once no piece is left and no block is whole, or reading has ended. An M is what stands between
-- two steps, with the reading `at`
module _ {M : Type 0} (at : M → StationReading) (most : ℕ) (Step : M → M → List ℕ → ℕ → List ℕ → List ℕ → StationTook → Type 0) (last : ℕ) (End : M → List ℕ → ℕ → List ℕ → Type 0) where
  pub data WritesCalls : List (List ℕ) → M → List ℕ → Type 0 where
    pieces-over : {pieces : List (List ℕ)} {m : M} (out out' : List ℕ) (r : ℕ) → pieces ≡ [] → (at m).reading.have < 512 → last ≤ length out → End m out r out' → WritesCalls pieces m (take r out')
    reading-over : {pieces : List (List ℕ)} {m : M} (out out' : List ℕ) (r : ℕ) → (at m).reading.goes_on ≡ false → last ≤ length out → End m out r out' → WritesCalls pieces m (take r out')
    piece-over : {pieces : List (List ℕ)} {m : M} {text : List ℕ} → WritesCalls pieces m text → WritesCalls ([] ∷ pieces) m text
    piece-step : {rest : List ℕ} {pieces : List (List ℕ)} {m m' : M} {text : List ℕ} (piece : List ℕ) (from : ℕ) (out out' : List ℕ) (r : StationTook)
        → rest ≡ drop from piece
        → most ≤ length out
        → Step m m' piece from out out' r
        → at m' ≡ r.reading
        → WritesCalls (drop r.next piece ∷ pieces) m' text
        → WritesCalls (rest ∷ pieces) m (take r.written out' ++ text)
