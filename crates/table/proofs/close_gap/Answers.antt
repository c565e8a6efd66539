use Rattle.std.proofs.Common.{arith, List, ◌++◌, ◌-◌, take, drop, ◌≡◌, ℕ, ap, sym, ◌∙◌, ◌+◌, length}
use Rattle.table.specs.Table.{close_gap}
use Rattle.table.proofs.Lists.{both_hold, outside}
use Rattle.table.proofs.Bounds.{close-in}
use Rattle.table.proofs.Loops.{closed-still, closed-part}
use Rattle.definition.specs.Layout.{Row}
use Rattle.table.proofs.Chains.{copied-down}
use Rattle.table.proofs.close_gap.Goals as goal

pub returns-then-k-eq0 : goal.returns-then-k-eq0
unfolding close_gap
returns-then-k-eq0 c = let a = c.args in
    sym (outside (a.at + a.k) a.n a.n (length a.rows.now) _ _ (λ h b. let e : a.k ≡ 0 = grind arith in rw e (closed-still a.rows.now a.at a.n (grind arith))))

pub returns-then-k-eq1 : goal.returns-then-k-eq1
returns-then-k-eq1 c = let a = c.args in
    let rs : List Row = a.rows.now in
    ap (λ (v : List Row). take a.at rs ++ (v ++ drop (a.n - a.at) (drop a.at rs))) c.close_one.ensures
    ∙ closed-part rs a.at 1 a.n (omega arith) (omega arith)
    ∙ sym (ap (λ (k : ℕ). close_gap a.at k a.n rs) c.if-k-eq1.true ∙ close-in a.at 1 a.n rs (omega arith) (omega arith))

pub returns : goal.returns
unfolding close_gap
returns c = let a = c.args in
    c.copy_within.ensures.after ∙ copied-down a.at a.k a.n a.rows.now (omega arith) ∙ sym (both_hold (a.at + a.k) a.n a.n (length a.rows.now) _ _ (omega arith) (omega arith))
