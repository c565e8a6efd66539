-- An acknowledgement by value, and what it leaves of a destination where its consumer is present, before the dispatch. Assumes nothing.
use Rattle.std.specs.Prelude.{ℕ, [], Some, None}
use Rattle.std.specs.Prelude as Std
use Rattle.std.proofs.Math.Option.{Option, none, some}
use Rattle.definition.specs.Types.{Id, Dest}
use Rattle.definition.specs.Types as Def
use Rattle.definition.specs.Consumer.{Step, ack_sub}
use Rattle.definition.specs.Consumer as Def-as-Consumer
use Rattle.definition.specs.Destination.{Out, count, sub_of, put_sub}
use Rattle.acks.specs.declared.Ack.{Ack}

-- a number that may be missing, and an ack, as the definitions have them
abbrev pub maybe_number : Std.Option ℕ → Option ℕ
maybe_number None = none
maybe_number (Some n) = some n

abbrev pub ack_of : Ack → Def-as-Consumer.Ack
ack_of a = record { type = a.kind; transacted = a.transacted; first = maybe_number a.first; last = maybe_number a.last; cause = a.cause }

-- a step of the consumer i: nothing of one that is absent
unfoldable pub step_at : (Def.Sub → Step) → Id → Dest → Option Def.Sub → Out
step_at f i t none = record { dest = t; events = [] }
step_at f i t (some s) = let k = f s in record { dest = count k.counts (put_sub i k.sub t); events = k.events }

-- Dest::ack, of a consumer that is there, before `touch_idle` and the dispatch
unfoldable pub acked : Id → Def-as-Consumer.Ack → Dest → Out
acked i a t = step_at (ack_sub a) i t (sub_of i t)
