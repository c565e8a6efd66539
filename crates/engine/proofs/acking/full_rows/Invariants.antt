use Rattle.acks.proofs.Telling.{Full}
use Rattle.engine.proofs.acking.full_rows.Given as goal

abbrev pub invariant-loop-i : goal.invariant-loop-i
invariant-loop-i l = Full l.from l.to l.i l.rows
