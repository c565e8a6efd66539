use native.Mathlib.Omega.{arith}
use Rattle.callfile.proofs.word_field.Goals as goal

pub returns-then-minus : goal.returns-then-minus
returns-then-minus c = rw c.if-minus.true (c.put_signed.ensures.0, omega arith)

pub returns : goal.returns
returns c = rw c.if-minus.false (c.put_field.ensures.0, omega arith)
