-- What a run of a call file prints, a block at a time, and the state that it leaves. Assumes nothing.
use Rattle.std.specs.Prelude.{◌≡◌, Bool, true, false, not, ◌&&◌, ◌||◌, List, [], ◌∷◌, ◌++◌, map, ℕ, zero, suc, ◌+◌, eqb, length, drop}
use Rattle.definition.specs.Base.{whether◌then◌else◌}
use Rattle.definition.specs.Types.{Dest}
use Rattle.definition.specs.Calls.{Lengths, short, Result, refused}
use Rattle.definition.specs.Words.{step}
use Rattle.definition.specs.Layout.{Row, Buffers, event_words, view, formed, sound_buffers}
use Rattle.stats.specs.Counted.{more}
use Rattle.calls.specs.declared.Call.{Call}
use Rattle.callfile.specs.Blocks.{calls_in, call_at}
use Rattle.callfile.specs.Lines.{call_line, events_text, bad_line}
use Rattle.engine.specs.declared.Outcome.{Outcome}
use Rattle.engine.specs.Called.{outcome, Past}
use Rattle.running.specs.declared.Ran.{Ran}

-- ---- a call's lines

-- a call's line and those of its events
unfoldable pub call_lines : ℕ → Result → List ℕ
call_lines index r = call_line index r.refusal r.answer ++ events_text r.events

-- ---- a call

-- what a call finds: whether the state's counts fit its tables, what it holds, and the event list
pub record LentState : Type 0 where
  pub formed : Bool
  pub dest : Dest
  pub events : List Row

abbrev pub lent_by : Buffers → List Row → LentState
lent_by b events = record { formed = formed b; dest = view b; events = events }

abbrev pub accepted : Result → Bool
accepted r = eqb r.refusal 0

-- what it gets: `buffer_step`, by what it finds
unfoldable pub step_on : Lengths → Call → LentState → Result
step_on l c s =
    whether not (short l) && (not (eqb c.code 0) && not s.formed) then refused 2 s.dest
    else step l c.code c.words s.dest

-- what it leaves: an accepted call leaves a state whose counts fit, and its events stand first in the list
abbrev pub left_by : Result → LentState → LentState
left_by r s = record { formed = accepted r || s.formed; dest = r.dest; events = map event_words r.events ++ drop (length r.events) s.events }

abbrev pub outcome_of : Result → Outcome
outcome_of r = outcome r.refusal r.answer (length r.events)

-- ---- calls, one after another

-- the bytes printed, the next call's index, whether reading goes on, whether a call was accepted, and what is left
pub record Run (S : Type 0) : Type 0 where
  pub text : List ℕ
  pub index : ℕ
  pub goes_on : Bool
  pub changed : Bool
  pub lent : S

-- of one call: the bytes printed, whether it was accepted, and what is left
pub record Turned (S : Type 0) : Type 0 where
  pub text : List ℕ
  pub changed : Bool
  pub lent : S

-- what a program does with a call, by its index and what it finds
abbrev pub Doing : Type 0 → Type 0
Doing S = ℕ → Call → S → Turned S

-- n calls from call k on
unfoldable pub block_calls : ℕ → ℕ → List ℕ → List Call
block_calls k zero block = []
block_calls k (suc n) block = call_at k block ∷ block_calls (k + 1) n block

module _ {S : Type 0} where
  -- what was printed, and whether a call was accepted, before the rest
  abbrev pub followed_run : List ℕ → Bool → Run S → Run S
  followed_run text changed q = record { text = text ++ q.text; index = q.index; goes_on = q.goes_on; changed = changed || q.changed; lent = q.lent }

  -- reading ends, and no call was run
  abbrev pub ends : List ℕ → ℕ → S → Run S
  ends text index s = record { text = text; index = index; goes_on = false; changed = false; lent = s }

module _ {S : Type 0} (one : Doing S) where
  -- the calls of a list, from an index on, which counts up to the largest word and stays there
  unfoldable pub each_call : List Call → ℕ → S → Run S
  each_call [] index s = record { text = []; index = index; goes_on = true; changed = false; lent = s }
  each_call (c ∷ cs) index s = let t = one index c s in followed_run t.text t.changed (each_call cs (more index) t.lent)

  -- those of a block; a bad block has its line, and ends the reading
  unfoldable pub each_of_block : List ℕ → ℕ → ℕ → S → Run S
  each_of_block block index number s =
      whether eqb (calls_in block (length block)) 0 then ends (bad_line number) index s
      else each_call (block_calls 0 (calls_in block (length block)) block) index s

-- a run does this with each
unfoldable pub run_call : Lengths → Doing LentState
run_call l index c s = let r = step_on l c s in record { text = call_lines index r; changed = accepted r; lent = left_by r s }

-- ---- in lent buffers

-- once a call is accepted the state is sound, and until then the buffers are as they were. Open in a state that has changed, and no line depends on
-- it: the words that are not in use, as `Called` of `engine` names them. The buffers past what a destination needs are as they were
pub record Left (changed : Bool) (b b' : Buffers) (events events' : List Row) : Type 0 where
  pub leaves-sound : changed ≡ true → sound_buffers b' ≡ true
  pub kept : changed ≡ false → b' ≡ b
  pub past : Past b b' events events'

-- the lines stand first in the text, and the rest of it is as it was; the answer is q's
pub record Printed (S : Type 0) (q : Run S) (out out' : List ℕ) (r : Ran) : Type 0 where
  pub index : r.index ≡ q.index
  pub written : r.written ≡ length q.text
  pub goes_on : r.goes_on ≡ q.goes_on
  pub text : out' ≡ q.text ++ drop (length q.text) out

-- and the state and the event list are q's. Nothing else is open than `Left` says: the answer, the text and the event list are equal to q's on their whole length
pub record Runs (q : Run LentState) (b b' : Buffers) (events events' : List Row) (out out' : List ℕ) (r : Ran) : Type 0 where
  pub printed : Printed LentState q out out' r
  pub shows : lent_by b' events' ≡ q.lent
  pub left : Left q.changed b b' events events'
