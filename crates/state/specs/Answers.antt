-- What a call leaves, as the papers have it: the refusal's number, the answer and the numbers. Assumes nothing.
use Rattle.std.specs.Prelude.{ℕ, Result, Ok, Err}
use Rattle.model.specs.declared.Refusal.{Refusal}
use Rattle.model.specs.Refusal.{refusal_number}
use Rattle.state.specs.declared.Head.{Head}
use Rattle.state.specs.declared.Answered.{Answered}

-- the refusal is 0 where the call is accepted
pub record Replied : Type 0 where
  pub refusal : ℕ
  pub answer : ℕ
  pub head : Head

-- a refused call answers 0, and leaves the numbers that it was given
abbrev pub told : Head → Result Answered Refusal → Replied
told d (Ok a) = record { refusal = 0; answer = a.answer; head = a.head }
told d (Err r) = record { refusal = refusal_number r; answer = 0; head = d }

-- the number of a test's refusal
abbrev pub refusal_of : {T : Type 0} → Result T Refusal → ℕ
refusal_of (Ok x) = 0
refusal_of (Err r) = refusal_number r
