use Rattle.returns.proofs.Unmarking.{Unmarking}
use Rattle.returns.proofs.unmark_all.Given as goal

abbrev pub invariant-loop-i : goal.invariant-loop-i
invariant-loop-i l = Unmarking l.id l.fn.d.consumers l.subs l.initial.rows l.i l.base l.rows
