-- A refusal has a number above 0, so that an accepted answer tells the same of any numbers. Assumes nothing.
use mathlib.Core.Path.{◌≡◌, refl}
use Prim.Native.Nat.{◌<◌}
use native.Mathlib.Omega.{arith}
use Rattle.std.specs.Prelude.{Result, Ok, Err}
use Rattle.model.specs.declared.Refusal.{Refusal}
use Rattle.model.specs.declared.Refusal.TheVariants.{Short, NotSound, Arguments, NumberHeld, RowsFull, ConsumerHere, ConsumersFull, ProducersFull, CallsUsedUp, NotOpen, ShareUsedUp, ReadingsTurned}
use Rattle.model.specs.Refusal.{refusal_number}
use Rattle.state.specs.declared.Head.{Head}
use Rattle.state.specs.declared.Answered.{Answered}
use Rattle.state.specs.Answers.{told}

pub numbered : (r : Refusal) → 0 < refusal_number r
numbered Short = omega arith
numbered NotSound = omega arith
numbered Arguments = omega arith
numbered NumberHeld = omega arith
numbered RowsFull = omega arith
numbered ConsumerHere = omega arith
numbered ConsumersFull = omega arith
numbered ProducersFull = omega arith
numbered CallsUsedUp = omega arith
numbered NotOpen = omega arith
numbered ShareUsedUp = omega arith
numbered ReadingsTurned = omega arith

pub accepted-told : (d e : Head) (r : Result Answered Refusal) → (told d r).refusal ≡ 0 → told e r ≡ told d r
accepted-told d e (Ok a) z = refl
accepted-told d e (Err r) z = absurd (omega (arith, z, numbered r))
