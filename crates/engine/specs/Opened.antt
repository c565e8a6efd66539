-- The numbers of a destination that is opened, and what is answered and stored at a call's end. Assumes nothing.
use Rattle.std.specs.Prelude.{true, List, ℕ, eqb, Result, Ok, Err}
use Rattle.definition.specs.Consumer.{zero_stats}
use Rattle.definition.specs.Words.{at, share_of}
use Rattle.model.specs.declared.Refusal.{Refusal}
use Rattle.model.specs.Refusal.{refusal_number}
use Rattle.stats.specs.Counted.{more}
use Rattle.state.specs.declared.Head.{Head}
use Rattle.state.specs.declared.Answered.{Answered}
use Rattle.state.specs.State.{with_used_calls, stored_head}
use Rattle.engine.specs.declared.Outcome.{Outcome}
use Rattle.engine.specs.declared.Reply.{Reply}
use Rattle.definition.specs.Base.{whether◌then◌else◌}
use Rattle.engine.specs.Called.{outcome}

unfoldable pub opened_head : List ℕ → Head
opened_head ws = record {
  topic_limit = at 1 ws;
  call_limit = at 2 ws;
  allowance = at 4 ws;
  share = share_of (at 5 ws);
  calls_used = 0;
  turn = 0;
  idle_since = at 3 ws;
  stats = zero_stats;
  consumers = 0;
  producers = 0;
  audits = 0;
  reserved = 0;
  waiting = 0;
  used = 0;
  events = 0;
  queue = eqb (at 0 ws) 0;
  idle = true;
}

-- one call more
abbrev pub counted : Head → Head
counted d = with_used_calls (more d.calls_used) d

-- a refused call answers its refusal's number alone
abbrev pub finished : Result Answered Refusal → Outcome
finished (Ok a) = outcome 0 a.answer a.head.events
finished (Err r) = outcome (refusal_number r) 0 0

-- the same of a refusal by any number
abbrev pub finished_by : Reply → Outcome
finished_by a = whether eqb a.refusal 0 then outcome 0 a.answer a.head.events else outcome a.refusal 0 0

-- and stores nothing
abbrev pub stored_after : Result Answered Refusal → List ℕ → List ℕ
stored_after (Ok a) h = stored_head (counted a.head) h
stored_after (Err r) h = h
