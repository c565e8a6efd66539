use mathlib.Core.Bool.{false}
use Prim.Native.Nat.{◌+◌}
use Rattle.acks.proofs.Telling.{Telling}
use Rattle.reserved.specs.Reserved.{wants_row}
use Rattle.reserved.proofs.letters.Given as goal

abbrev pub invariant-loop-row : goal.invariant-loop-row
invariant-loop-row l = Telling false (wants_row l.id l.p) l.rows l.from l.to (l.from + l.row-index) l.fn.before l.d l.initial.events l.events
