use Rattle.std.proofs.Common.{arith, List, ◌++◌, ◌-◌, take, drop, ℕ, ap, sym, ◌∙◌, ◌+◌, length}
use Rattle.table.specs.Table.{open_gap}
use Rattle.table.proofs.Lists.{both_hold, outside}
use Rattle.table.proofs.Bounds.{open_in}
use Rattle.table.proofs.Loops.{lifted-part}
use Rattle.table.proofs.Chains.{copied-up}
use Rattle.definition.specs.Layout.{Row}
use Rattle.table.proofs.open_gap.Goals as goal

pub returns-then-rows-k : goal.returns-then-rows-k
unfolding open_gap
returns-then-rows-k c = let a = c.args in
    sym (outside a.at a.n (a.n + a.k) (length a.rows.now) _ _ (λ h b. absurd (grind arith)))

pub returns-then-k-eq1 : goal.returns-then-k-eq1
returns-then-k-eq1 c = let a = c.args in
    let rs : List Row = a.rows.now in
    ap (λ (v : List Row). take a.at rs ++ (v ++ drop (a.n + 1 - a.at) (drop a.at rs))) c.open_one.ensures
    ∙ lifted-part rs a.at 1 a.n (omega arith) (omega arith)
    ∙ sym (ap (λ (k : ℕ). open_gap a.at k a.n rs) c.if-k-eq1.true ∙ open_in a.at 1 a.n rs (omega arith) (omega arith))

pub returns : goal.returns
unfolding open_gap
returns c = let a = c.args in
    c.copy_within.ensures.after ∙ copied-up a.at a.k a.n a.rows.now (omega arith) ∙ sym (both_hold a.at a.n (a.n + a.k) (length a.rows.now) _ _ (omega arith) (omega arith))
