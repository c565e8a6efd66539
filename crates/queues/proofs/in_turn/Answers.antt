use mathlib.Core.Path.{sym}
use native.Mathlib.Nat.{mod-eq_of_lt}
use native.Mathlib.Omega.{arith}
use Rattle.queues.proofs.Giving.{turned-once}
use Rattle.queues.proofs.in_turn.Goals as goal

pub returns-then-x-n : goal.returns-then-x-n
returns-then-x-n c = sym (mod-eq_of_lt c.if-x-n.true)

pub returns-then-x-n-2 : goal.returns-then-x-n-2
returns-then-x-n-2 c = turned-once _ _ c.if-x-n-2.true (omega arith)
