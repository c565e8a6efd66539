use Rattle.std.proofs.Common.{◌≡◌, Bool, List, ℕ, ◌+◌, ◌≤◌, length}
use Rattle.std.specs.Fn.{FnReturnsAt}
use lib.Seq.{slice}
use Rattle.definition.specs.Base.{tally}
use Rattle.table.specs.Table.{Tests, compacted}
use Rattle.table.proofs.compact.Given as goal

abbrev pub invariant-loop-i : goal.invariant-loop-i
invariant-loop-i g l = (length l.rows ≡ length l.fn.rows)
    × (l.from + l.gone ≤ l.i)
    × ((p : List ℕ → Bool) → Tests (FnReturnsAt g.F.Fn l.goes) p → (l.gone ≡ tally p (slice l.from l.i l.fn.rows)) × (l.rows ≡ compacted p l.from l.i l.fn.rows))
