use Rattle.callfile.proofs.Checks.{Summed}
use Rattle.callfile.proofs.check_of.Given as goal

abbrev pub invariant-loop-i : goal.invariant-loop-i
invariant-loop-i l = Summed l.block l.i l.sum
