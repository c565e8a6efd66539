use Prim.Native.Nat.{◌+◌}
use Rattle.rejects.specs.Rejects.{letter_row}
use Rattle.rejects.proofs.Copying.{Copying}
use Rattle.rejects.proofs.copy.Given as goal

abbrev pub invariant-loop-row : goal.invariant-loop-row
invariant-loop-row l = Copying (letter_row l.gone l.id l.p) l.rows l.from l.to (l.from + l.row-index) l.n l.initial.out l.out
