-- What a consumer asks (codes 4 to 7), in parts. Assumes nothing.
use Rattle.std.specs.Prelude.{◌≡◌, false, List, ℕ, ◌≤◌, length, ℤ}
use Rattle.definition.specs.Base.{is_some}
use Rattle.definition.specs.Types.{Id, Audit, Dest}
use Rattle.definition.specs.Destination.{Out, sub_of, touch_idle, dispatch, pull}
use Rattle.definition.specs.Layout.{Row}
use Rattle.state.specs.declared.Head.{Head}
use Rattle.state.specs.Answers.{Replied}
use Rattle.state.specs.State.{head_view}
use Rattle.state.specs.Leaves.{silent, both, Leaves}

-- a part, `touch_idle`, the dispatch
abbrev pub sent_on : ℕ → (Dest → Out) → Dest → Out
sent_on now f = both (both f (silent (touch_idle now))) (dispatch now)

-- a consumer is not there
abbrev pub Absent : Id → Head → List Row → List Row → Type 0
Absent id d subs rows = (producers : List Id) (audits : List Audit) → is_some (sub_of id (head_view d subs rows producers audits)) ≡ false

-- a part of a call, and that its events have room
abbrev pub Sends : (Dest → Out) → Head → Head → List Row → List Row → List Row → List Row → List Row → List Row → Type 0
Sends f d r subs rows events subs' rows' events' = Leaves f d r subs rows events subs' rows' events' × (r.events ≤ 545)

-- a pull, with what it is answered
abbrev pub pull_out : ℕ → Id → ℤ → Dest → Out
pull_out now i timeout t = record { dest = (pull now i timeout t).dest; events = (pull now i timeout t).events }

pub record Pulled (now : ℕ) (i : Id) (timeout : ℤ) (d : Head) (r : Replied) (subs rows events subs' rows' events' : List Row) : Type 0 where
  pub refusal : r.refusal ≡ 0
  pub answer : (producers : List Id) (audits : List Audit) → length producers ≡ d.producers → r.answer ≡ (pull now i timeout (head_view d subs rows producers audits)).answer
  pub sends : Sends (pull_out now i timeout) d r.head subs rows events subs' rows' events'
