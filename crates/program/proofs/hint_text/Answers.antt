use Rattle.callfile.proofs.Parts.{line-puts}
use Rattle.program.specs.Said.{hint_text}
use mathlib.Core.Logic.{inl, inr}
use native.Mathlib.Omega.{arith}
use Rattle.program.proofs.hint_text.Goals as goal

pub returns-in-Marked : goal.returns-in-Marked
unfolding hint_text
returns-in-Marked c = let p = line-puts (omega arith) (omega arith) c.put_all.ensures in (rw c.in-Marked.is p, omega (arith, p.next))

pub returns-in-Text : goal.returns-in-Text
unfolding hint_text
returns-in-Text c = let p = line-puts (omega arith) (omega arith) c.put_all-in-Text.ensures in (rw c.in-Text.is p, omega (arith, p.next))

pub returns-in-Calls : goal.returns-in-Calls
unfolding hint_text
returns-in-Calls c = let p = line-puts (omega arith) (omega arith) c.put_all-in-Calls.ensures in (elim c.in-Calls.is [ inl e ↦ rw e p | inr e ↦ rw e p ], omega (arith, p.next))
