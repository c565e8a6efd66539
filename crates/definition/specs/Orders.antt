-- Calls that change places: what document 01 asks of a list of codes 4 to 7. Assumes nothing.
use Rattle.std.specs.Prelude.{ℕ, ◌-◌, ◌≤◌, ◌≡◌, Bool, true, false, ◌||◌, List, [], ◌∷◌, eqb, length}
use Rattle.definition.specs.Base.{keep, is_some}
use Rattle.definition.specs.Types.{queue, Id, Dest, Event}
use Rattle.definition.specs.Consumer.{same_id}
use Rattle.definition.specs.Destination.{sub_of}
use Rattle.definition.specs.Calls.{Lengths, discarding, missing, Result, call}
use Rattle.definition.specs.Words.{id_in, step}
use Rattle.definition.specs.Runs.{run, end}

-- as accepted calls left it: the latest accepted open, and the accepted calls since; whether a clear is among these
pub data Reached : Bool → Dest → Type 0 where
  opening : (lent : Lengths) (words : List ℕ) (t : Dest) → (step lent 0 words t).refusal ≡ 0 → Reached false (step lent 0 words t).dest
  calling : {b : Bool} {t : Dest} (lent : Lengths) (code : ℕ) (words : List ℕ) → 1 ≤ code → Reached b t → (step lent code words t).refusal ≡ 0 → Reached (eqb code 10 || b) (step lent code words t).dest
  -- the two that have no code
  discards : {b : Bool} {t : Dest} (lent : Lengths) → Reached b t → (call lent discarding t).refusal ≡ 0 → Reached b (call lent discarding t).dest
  misses : {b : Bool} {t : Dest} (lent : Lengths) → Reached b t → (call lent missing t).refusal ≡ 0 → Reached b (call lent missing t).dest

-- one call of the list: its code, its eight words, and the four lengths of what it is lent: the state's three buffers and its own event list
pub record Lent : Type 0 where
  pub code : ℕ
  pub words : List ℕ
  pub lengths : Lengths

-- whose call it is, in words 0 to 2
abbrev pub caller : Lent → Id
caller c = id_in c.words

-- what it gets
pub record Reply : Type 0 where
  pub refusal : ℕ
  pub answer : ℕ
  pub events : List Event

abbrev pub result : Lent → Dest → Result
result c t = step c.lengths c.code c.words t

abbrev pub reply : Lent → Dest → Reply
reply c t = record { refusal = (result c t).refusal; answer = (result c t).answer; events = (result c t).events }

abbrev pub dest_left : Lent → Dest → Dest
dest_left c t = (result c t).dest

-- one consumer's own calls, and what they got
abbrev pub calls_of : Id → List Lent → List Lent
calls_of i l = keep (λ c. same_id (caller c) i) l

abbrev pub replies_of : Id → List (Lent × Reply) → List (Lent × Reply)
replies_of i l = keep (λ r. same_id (caller r.0) i) l

-- each has a code from 4 to 7 and the ID of a present consumer (one that accepted calls joined and did not remove since: `PresentByHistory`); its other words are any
pub record Present (c : Lent) (t : Dest) : Type 0 where
  pub low : 4 ≤ c.code
  pub high : c.code ≤ 7
  pub there : is_some (sub_of (caller c) t) ≡ true

abbrev pub AllPresent : List Lent → Dest → Type 0
AllPresent [] t = Unit {0}
AllPresent (c ∷ cs) t = Present c t × AllPresent cs t

-- any topic, or any queue never cleared with nothing waiting (what waits, from which call and until when: `WaitsFrom`, `WaitsOn`, `FliesFrom`)
abbrev pub Qualifies : Bool → Dest → Type 0
Qualifies cleared t = t.kind ≡ queue → (cleared ≡ false) × (t.pending ≡ [])

-- each call gets the same refusal, answer and events, and the two runs end in the same state
pub record SameRuns (l m : List Lent) (t : Dest) : Type 0 where
  pub replies : (i : Id) → replies_of i (run reply dest_left l t) ≡ replies_of i (run reply dest_left m t)
  pub states : end dest_left l t ≡ end dest_left m t

-- demand 3, "a single claim about the whole list and its orders"
abbrev pub Reordering : Type 0
Reordering =
    (cleared : Bool) (t : Dest)
    -- "as accepted calls left it"
    → Reached cleared t
    -- "on any topic, or any never-cleared queue with nothing waiting"
    → Qualifies cleared t
    → (l m : List Lent)
    -- "its calls are codes 4 to 7, each with a present ID and otherwise any arguments"
    → AllPresent l t
    -- "calls left: call limit less calls used"
    → length l ≤ t.call_limit - t.calls_used
    -- "as long as each consumer's own calls keep their order"
    → ((i : Id) → calls_of i l ≡ calls_of i m)
    -- "same refusals, answers, sends and final state"
    → SameRuns l m t
