use Rattle.std.proofs.Common.{arith, ◌∙◌, length}
use Rattle.table.proofs.Chains.{copied-down}
use Rattle.table.proofs.close_one.Goals as goal

pub returns : goal.returns
returns c = let a = c.args in
    c.copy_within.ensures.after ∙ copied-down 0 1 (length a.rows.now) a.rows.now (omega arith)
