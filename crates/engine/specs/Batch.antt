-- Many calls on one lent state, one after another. Assumes nothing.
use Rattle.std.specs.Prelude.{◌≡◌, Bool, true, not, List, [], ◌∷◌, ◌++◌, map, ℕ, zero, suc, ◌-◌, eqb, length, take, drop}
use Rattle.definition.specs.Base.{whether◌then◌else◌, all}
use Rattle.definition.specs.Types.{Dest}
use Rattle.definition.specs.Calls.{Lengths, short, Result}
use Rattle.definition.specs.Words.{at, step}
use Rattle.definition.specs.Layout.{Row, Buffers, event_words, view, sound_buffers, lengths_of}
use Rattle.engine.specs.declared.batch.Done.{Done}
use Rattle.engine.specs.Called.{Past}

-- the outcomes (refusal, answer, how many events), the words of all events one after another, and the state
pub record Batch : Type 0 where
  pub outcomes : List Row
  pub events : List Row
  pub dest : Dest

abbrev pub undone : Dest → Batch
undone t = record { outcomes = []; events = []; dest = t }

abbrev pub outcome_words : Result → Row
outcome_words r = r.refusal ∷ r.answer ∷ length r.events ∷ []

-- a call, and then the others
abbrev pub followed : Result → Batch → Batch
followed r q = record { outcomes = outcome_words r ∷ q.outcomes; events = map event_words r.events ++ q.events; dest = q.dest }

-- the eight words after the code
abbrev pub eight_words : Row → List ℕ
eight_words w = at 1 w ∷ at 2 w ∷ at 3 w ∷ at 4 w ∷ at 5 w ∷ at 6 w ∷ at 7 w ∷ at 8 w ∷ []

-- with so many places for events fewer
abbrev pub less : ℕ → Lengths → Lengths
less k l = record { head = l.head; subs = l.subs; rows = l.rows; events = l.events - k }

-- calls by their code and words, each lent what is left of the event list: up to the last call, the last place for an outcome, or the
-- first call that would be refused with 1
unfoldable pub batch : Lengths → ℕ → List Row → Dest → Batch
batch l places [] t = undone t
batch l zero (w ∷ ws) t = undone t
batch l (suc k) (w ∷ ws) t =
    let r = step l (at 0 w) (eight_words w) t in
    whether short l then undone t else followed r (batch (less (length r.events) l) k ws r.dest)

-- on lent buffers: where they are not sound, none
unfoldable pub buffer_batch : Buffers → ℕ → ℕ → List Row → Batch
buffer_batch b events places ws = whether sound_buffers b then batch (lengths_of b events) places ws (view b) else undone (view b)

abbrev pub refusing : Row → Bool
refusing o = not (eqb (at 0 o) 0)

-- outcomes, events and state are q's, and what stands past them is as it was; sound buffers stay sound, and where every call was refused
-- they are as they were. Of the state's words what `Called` leaves open is open here.
pub record Batched (q : Batch) (b b' : Buffers) (events events' outcomes outcomes' : List Row) (r : Done) : Type 0 where
  pub calls : r.calls ≡ length q.outcomes
  pub count : r.events ≡ length q.events
  pub told : take r.calls outcomes' ≡ q.outcomes
  pub untold : drop r.calls outcomes' ≡ drop r.calls outcomes
  pub sent : take r.events events' ≡ q.events
  pub later : drop r.events events' ≡ drop r.events events
  pub shows : view b' ≡ q.dest
  pub leaves-sound : sound_buffers b ≡ true → sound_buffers b' ≡ true
  pub kept : all refusing q.outcomes ≡ true → b' ≡ b
  pub past : Past b b' events events'
  pub outcomes-length : length outcomes' ≡ length outcomes
