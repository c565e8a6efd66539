use mathlib.Core.Path.{◌≡◌}
use lib.ListN.{length}
use Rattle.stationcalls.proofs.Numbering.{Numbering}
use Rattle.stationcalls.proofs.letters.number.Given as goal

abbrev pub invariant-loop-i : goal.invariant-loop-i
invariant-loop-i l = Numbering l.dead l.n l.first l.before l.letters l.many l.next l.lost l.i × (length l.letters ≡ length l.initial.letters)
