use mathlib.Core.Bool.{not, ◌&&◌}
use Rattle.table.specs.Table.{dseq_between, is_freed}
use Rattle.state.specs.State.{kind_by}
use Rattle.acks.proofs.Parts.{count-few, acted-mark}
use native.Mathlib.Omega.{arith}
use Rattle.engine.proofs.acking.mark.Goals as goal

pub overflow_add-s : goal.overflow_add-s
overflow_add-s c =
    let a = c.args in
    let n = count-few (kind_by a.d.queue) a.base a.s a.d a.rows.now c.requires (λ w. dseq_between a.p.first a.p.last w && not (is_freed w)) in
    let e = c.mark_range-fresh.ensures.value in
    omega (arith, c.requires.freed, c.requires.rows, c.requires.used)

pub returns : goal.returns
returns c =
    let a = c.args in
    λ events. acted-mark (kind_by a.d.queue) a.base a.s a.d a.rows.now c.requires a.p a.tx _ _ events c.full_rows.ensures c.mark_range-fresh.ensures.value c.mark_range-fresh.ensures.rows_after
