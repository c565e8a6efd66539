use mathlib.Core.Path.{sym, ap, ◌∙◌}
use Prim.Native.Nat.{ℕ, ◌+◌}
use lib.ListN.{drop, drop_of_length-le}
use Rattle.layouts.specs.Steps.{walk}
use Rattle.layouts.proofs.Rows.{rows_next, in-range-at}
use Rattle.layouts.proofs.walk.Goals as goal

pub past-reached-requires : goal.past-reached-requires
past-reached-requires c = in-range-at c.args.table.now c.loop-row.row-index c.loop-row-test.true c.requires

pub loop-row-preserved : goal.loop-row-preserved
loop-row-preserved c = let t = c.args.table.now in
    ap (λ (r : ℕ). walk r (drop (c.loop-row.row-index + 1) t)) c.past-reached.ensures
    ∙ sym (ap (walk c.loop-row.reached) (rows_next t c.loop-row.row-index c.loop-row-test.true))
    ∙ c.loop-row.invariant

pub returns : goal.returns
returns c = sym (ap (walk c.loop-row.reached) (drop_of_length-le c.args.table.now c.loop-row-test.false)) ∙ c.loop-row.invariant
