use Rattle.std.proofs.Common.{arith, ◌-◌, ◌∙◌, length}
use Rattle.table.proofs.Chains.{copied-up}
use Rattle.table.proofs.open_one.Goals as goal

pub returns : goal.returns
returns c = let a = c.args in
    c.copy_within.ensures.after ∙ copied-up 0 1 (length a.rows.now - 1) a.rows.now (omega arith)
