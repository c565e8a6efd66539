-- What deleting entries leaves, and how it is answered. Assumes nothing.
use Rattle.std.specs.Prelude.{◌≡◌, ℕ, Bool, List, [], ltb, length}
use Rattle.stats.specs.Counted.{with_expired_by}
use Rattle.definition.specs.Base.{whether◌then◌else◌}
use Rattle.definition.specs.Types.{Id, Audit, Dest}
use Rattle.definition.specs.Destination as Destination
use Rattle.definition.specs.Destination.{Out, sweep_expired, clear}
use Rattle.definition.specs.Layout.{Row}
use Rattle.state.specs.declared.Head.{Head}
use Rattle.state.specs.Answers as State
use Rattle.state.specs.State.{head_view, with_counters, with_reserved_count, with_waiting, with_used, touched, done_as}

-- no row is in use
abbrev pub emptied_head : Head → Head
emptied_head d = with_used 0 (with_reserved_count 0 (with_waiting 0 d))

-- Dest::clear, as a part of a call
abbrev pub clear_out : Dest → Out
clear_out t = record { dest = (clear t).dest; events = [] }

-- Dest::sweep_expired, as a part of a call
abbrev pub sweep_out : ℕ → ℕ → Dest → Out
sweep_out now most t = record { dest = (sweep_expired now most t).dest; events = [] }

-- the end of it: how many went, counted, and the idle mark
abbrev pub sweep_finished : ℕ → ℕ → Head → State.Replied
sweep_finished gone now d = whether ltb 0 gone then done_as gone (touched now (with_counters (with_expired_by d.stats gone) d)) else done_as 0 d

-- answered as the definition has it; refused with 2 where a test fails
pub record SweepAnswers (test : Bool) (f : Dest → Destination.Answer) (d : Head) (subs rows : List Row) (r : State.Replied) : Type 0 where
  pub refusal : r.refusal ≡ (whether test then 0 else 2)
  pub answer : (producers : List Id) (audits : List Audit) → length producers ≡ d.producers → r.answer ≡ (whether test then (f (head_view d subs rows producers audits)).answer else 0)
