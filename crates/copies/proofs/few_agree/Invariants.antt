use mathlib.Core.Path.{◌≡◌}
use mathlib.Core.Bool.{true}
use lib.Seq.{slice}
use Rattle.copies.specs.Copies.{agree_at}
use Rattle.copies.proofs.few_agree.Given as goal

abbrev pub invariant-loop-i : goal.invariant-loop-i
invariant-loop-i l = agree_at (slice l.i l.n l.rows) ≡ true
