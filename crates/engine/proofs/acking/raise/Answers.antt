use Rattle.state.specs.State.{kind_by}
use Rattle.acks.proofs.Parts.{acted-raise}
use Rattle.engine.proofs.acking.raise.Goals as goal

pub returns : goal.returns
returns c =
    let a = c.args in
    λ events. acted-raise (kind_by a.d.queue) a.base a.s a.d a.rows.now c.requires a.p _ events c.full_rows.ensures c.redeliver_range.ensures
