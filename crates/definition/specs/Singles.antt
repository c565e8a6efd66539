-- Document 02 §2, beside the Rust: what a transacted INDIVIDUAL of a present consumer marks is what the Rust's range marks where the first message of the
-- call is set to its last. Assumes nothing.
use Rattle.std.specs.Prelude.{◌≡◌, true, false}
use Rattle.definition.specs.Types.{Sub}
use Rattle.definition.specs.Consumer.{Ack, Individual, ack_range, free, ack_transacted}

-- the acknowledgement with its first message set to its last
abbrev pub last_first : Ack → Ack
last_first a = record { type = a.type; transacted = a.transacted; first = a.last; last = a.last; cause = a.cause }

abbrev pub SingleAsRange : Type 0
SingleAsRange = (a : Ack) (s : Sub) → ack_transacted a s Individual ≡ free (ack_range s (last_first a) false) true s
