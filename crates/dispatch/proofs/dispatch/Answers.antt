use lib.ListN.{length}
use Rattle.definition.specs.Destination.{dispatch}
use Rattle.state.proofs.Answers.{leaves-no}
use Rattle.dispatch.proofs.Guard.{dispatches-late}
use Rattle.dispatch.proofs.Sorts.{of-queue, of-topic}
use Rattle.dispatch.proofs.dispatch.Goals as goal

pub returns-then-clock-gt-CLOCK_MOST : goal.returns-then-clock-gt-CLOCK_MOST
returns-then-clock-gt-CLOCK_MOST c =
    let a = c.args in
    leaves-no _ _ (dispatch a.clock) a.d a.subs.now a.rows.now a.events.now (dispatches-late a.subs.now a.d (length a.rows.now) (length a.events.now) a.clock c.if-clock-gt-CLOCK_MOST.true)

pub returns-then-d : goal.returns-then-d
returns-then-d c =
    let a = c.args in
    let r = c.dispatch_queue in
    of-queue a.d r.result a.subs.now a.rows.now a.events.now r.new.subs r.new.rows r.new.events a.clock _ c.due-by.ensures c.if-clock-gt-CLOCK_MOST.false c.if-d.true r.ensures

pub returns : goal.returns
returns c =
    let a = c.args in
    let r = c.dispatch_topic in
    of-topic a.d r.result a.subs.now a.rows.now a.events.now r.new.subs r.new.rows r.new.events a.clock _ c.due-by.ensures c.if-clock-gt-CLOCK_MOST.false c.if-d.false r.ensures
