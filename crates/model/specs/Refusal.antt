-- The papers' numbers of refusals. Assumes nothing.
use Rattle.std.specs.Prelude.{ℕ}
use Rattle.model.specs.declared.Refusal.{Refusal}
use Rattle.model.specs.declared.Refusal.TheVariants.{Short, NotSound, Arguments, NumberHeld, RowsFull, ConsumerHere, ConsumersFull, ProducersFull, CallsUsedUp, NotOpen, ShareUsedUp, ReadingsTurned}

abbrev pub refusal_number : Refusal → ℕ
refusal_number Short = 1
refusal_number NotSound = 2
refusal_number Arguments = 3
refusal_number NumberHeld = 4
refusal_number RowsFull = 5
refusal_number ConsumerHere = 6
refusal_number ConsumersFull = 7
refusal_number ProducersFull = 8
refusal_number CallsUsedUp = 9
refusal_number NotOpen = 10
refusal_number ShareUsedUp = 14
refusal_number ReadingsTurned = 17
