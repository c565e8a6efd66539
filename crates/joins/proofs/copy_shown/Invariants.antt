use Rattle.joins.proofs.Copies.{Copying}
use Rattle.joins.proofs.copy_shown.Given as goal

abbrev pub invariant-loop-i : goal.invariant-loop-i
invariant-loop-i l = Copying l.selector l.at l.from l.to l.initial.rows l.rows l.j l.i
