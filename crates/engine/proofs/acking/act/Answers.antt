use Rattle.state.specs.State.{kind_by}
use Rattle.acks.specs.Rules.{in_span}
use Rattle.acks.proofs.Parts.{acts-stays, acts-frees, acts-marks, acts-redelivers, acts-removes}
use Rattle.engine.proofs.acking.act.Goals as goal

pub returns-in-Stays : goal.returns-in-Stays
returns-in-Stays c =
    let a = c.args in
    acts-stays a.effect a.counts a.cause (in_span a.p) (kind_by a.d.queue) a.base a.s a.d a.rows.now a.events.now c.in-Stays.is

pub returns-in-Frees : goal.returns-in-Frees
returns-in-Frees c =
    let a = c.args in
    acts-frees a.effect a.counts a.cause (in_span a.p) (kind_by a.d.queue) a.base a.s _ a.d _ a.rows.now a.events.now _ a.events.now c.in-Frees.is (c.mark.ensures a.events.now)

pub returns-in-Marks : goal.returns-in-Marks
returns-in-Marks c =
    let a = c.args in
    acts-marks a.effect a.counts a.cause (in_span a.p) (kind_by a.d.queue) a.base a.s _ a.d _ a.rows.now a.events.now _ a.events.now c.in-Marks.is (c.mark-in-Marks.ensures a.events.now)

pub returns-in-Removes : goal.returns-in-Removes
returns-in-Removes c =
    let a = c.args in
    acts-removes a.effect a.counts a.cause (in_span a.p) (kind_by a.d.queue) a.base a.s _ a.d _ a.rows.now a.events.now _ _ c.in-Removes.is c.remove.ensures

pub returns-in-Redelivers : goal.returns-in-Redelivers
returns-in-Redelivers c =
    let a = c.args in
    acts-redelivers a.effect a.counts a.cause (in_span a.p) (kind_by a.d.queue) a.base a.s _ a.d _ a.rows.now a.events.now _ a.events.now c.in-Redelivers.is (c.raise.ensures a.events.now)
