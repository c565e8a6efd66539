-- A pull before and after the dispatch, and the words of a consumer that a pull or a new prefetch changes. Assumes nothing.
use Rattle.std.specs.Prelude.{◌≡◌, ℕ, ◌+◌, ◌≤◌, Bool, false, not, ◌&&◌, List, [], ◌∷◌, eqb, leb, ltb, length, take, ℤ}
use Rattle.std.proofs.Math.Option.{Option, none, some}
use Rattle.definition.specs.Base.{whether◌then◌else◌, every}
use Rattle.definition.specs.Types.{Id, Audit, Dest}
use Rattle.definition.specs.Types as Def
use Rattle.definition.specs.Destination.{Out, Answer, sub_of, put_sub, prefetch_at, resumed}
use Rattle.definition.specs.Words.{at}
use Rattle.definition.specs.Layout.{Row, sub_rows}
use Rattle.consumers.specs.declared.Sub.{Sub}
use Rattle.state.specs.declared.Head.{Head}
use Rattle.state.specs.Answers as State
use Rattle.state.specs.State.{head_view, with_events}

-- ---- a consumer by value

abbrev pub sub_prefetch : ℕ → Sub → Sub
sub_prefetch x s = record { conn = s.conn; session = s.session; value = s.value; prefetch = x; selector = s.selector; next_dseq = s.next_dseq; cursor = s.cursor; pull = s.pull; generation = s.generation; freed = s.freed; inflight = s.inflight; held = s.held; no_local = s.no_local; browser = s.browser; finished = s.finished; pulling = s.pulling }

-- whether a pull waits, which, and the generation
abbrev pub sub_pull : Bool → ℕ → ℕ → Sub → Sub
sub_pull b x g s = record { conn = s.conn; session = s.session; value = s.value; prefetch = s.prefetch; selector = s.selector; next_dseq = s.next_dseq; cursor = s.cursor; pull = x; generation = g; freed = s.freed; inflight = s.inflight; held = s.held; no_local = s.no_local; browser = s.browser; finished = s.finished; pulling = b }

-- ---- the parts of the calls

-- Dest::set_prefetch, before the dispatch
unfoldable pub prefetched : Id → ℤ → Dest → Dest
prefetched i p t = prefetch_at i p t (sub_of i t)

-- Dest::pull: a pull waits where the consumer is there and its prefetch is 0
abbrev pub pulls_at : Option Def.Sub → Bool
pulls_at none = false
pulls_at (some s) = not (ltb 0 s.prefetch)

unfoldable pub pulls : Id → Dest → Bool
pulls i t = pulls_at (sub_of i t)

-- a new generation, and its pull
abbrev pub pulling : Def.Sub → Def.Sub
pulling s = Def.with_pull (some (s.generation + 1)) (Def.with_generation (s.generation + 1) s)

abbrev pub registered_at : Id → Dest → Option Def.Sub → Dest
registered_at i t none = t
registered_at i t (some s) = whether ltb 0 s.prefetch then t else put_sub i (pulling s) t

-- Dest::pull, before the dispatch
unfoldable pub registered : Id → Dest → Dest
registered i t = registered_at i t (sub_of i t)

-- Dest::pull, after the dispatch, with the events that it sends itself
unfoldable pub answered : Id → ℤ → Dest → Answer
answered i timeout t = resumed i timeout (record { dest = t; events = [] }) (sub_of i t)

abbrev pub answered_out : Id → ℤ → Dest → Out
answered_out i timeout t = record { dest = (answered i timeout t).dest; events = (answered i timeout t).events }

-- the numbers are the same, and at most one event more is sent
pub record OneMore (d r : Head) : Type 0 where
  pub head : r ≡ with_events r.events d
  pub few : r.events ≤ d.events + 1

-- whether a pull waits: no where a test fails
pub record PullWaits (test : Bool) (i : Id) (d : Head) (subs rows : List Row) (r : Bool) : Type 0 where
  pub exact : (producers : List Id) (audits : List Audit) → r ≡ (test && pulls i (head_view d subs rows producers audits))

-- what a pull is answered: refused with 2 where a test fails
pub record PullAnswers (test : Bool) (i : Id) (timeout : ℤ) (d : Head) (subs rows : List Row) (r : State.Replied) : Type 0 where
  pub refusal : r.refusal ≡ (whether test then 0 else 2)
  pub answer : (producers : List Id) (audits : List Audit) → r.answer ≡ (whether test then (answered i timeout (head_view d subs rows producers audits)).answer else 0)

-- ---- numbers

-- the counts are within the tables, and one more event has room: what a pull's answer goes by after a dispatch
unfoldable pub stands : List Row → Head → ℕ → ℕ → Bool
stands subs d rows events = every (
    leb 32 (length subs)
    ∷ leb 512 rows
    ∷ ltb d.events events
    ∷ leb d.consumers 32
    ∷ leb d.used 512
    ∷ eqb (sub_rows (take d.consumers subs) + (d.reserved + d.waiting)) d.used
    ∷ [])

-- a consumer's generation can rise by one and still fit
abbrev pub risable : Row → Bool
risable w = ltb (at 12 w) 72057594037927937
