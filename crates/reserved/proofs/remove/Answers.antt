use Rattle.std.proofs.Common.{arith, rules, tests, ◌∙◌}
use Rattle.table.proofs.Bounds.{gone-in}
use Rattle.reserved.specs.Reserved.{wants_row}
use Rattle.reserved.proofs.remove.Goals as goal

pub returns : goal.returns
returns c =
    let a = c.args in
    let q = wants_row a.id a.p in
    let s = c.remove_where.ensures.taken q (λ r b k. search (rules, tests)) in
    record { value = s.0 ∙ gone-in q a.from a.to a.n a.rows.now (omega arith) (omega arith) (omega arith); rows_after = s.1 }
