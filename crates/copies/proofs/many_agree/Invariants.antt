use mathlib.Core.Path.{◌≡◌}
use mathlib.Core.Bool.{true}
use lib.ListN.{length}
use lib.Seq.{slice}
use Rattle.copies.specs.Copies.{agree_at}
use Rattle.copies.proofs.Laws.{Slots}
use Rattle.copies.proofs.many_agree.Given as goal

abbrev pub invariant-loop-i : goal.invariant-loop-i
invariant-loop-i g l = (agree_at (slice l.i l.n l.rows) ≡ true) × (length l.slots ≡ g.row.N) × Slots g.row.N l.slots l.i l.n l.rows
