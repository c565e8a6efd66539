use mathlib.Core.Path.{sym, ◌∙◌}
use borrow.Author.Tests.{not-true, not-false}
use Rattle.stationreport.proofs.Shown.{listed-are}
use Rattle.stationreport.proofs.Leaving.{none_left, some_left}
use Rattle.stationreport.proofs.blocks.leave_at.Goals as goal

pub returns-then-not-is_queue : goal.returns-then-not-is_queue
returns-then-not-is_queue c =
    let a = c.args in
    none_left a.heads.now a.subs.now a.rows.now a.own.now a.j a.before.now a.n a.came.now a.m a.code a.words a.left.now (sym c.is_queue.ensures ∙ not-true _ c.if-not-is_queue.true-raw)

pub returns : goal.returns
returns c =
    let a = c.args in
    let p = c.requires in
    let k = c.held_at-k in
    let queue = sym c.is_queue.ensures ∙ not-false _ c.if-not-is_queue.false-raw in
    some_left a.heads.now a.subs.now a.rows.now a.own.now a.j a.before.now a.n a.came.now a.m a.code a.words a.left.now p.within.0 p.within.1 p.own_value p.n_in_bounds.2
    queue _ k.result (listed-are k.ensures) (c.leavers-next.ensures.value, (c.leavers-next.ensures.upper_bound, c.leavers-next.ensures.left_after)) (c.leavers.ensures.value, (c.leavers.ensures.upper_bound, c.leavers.ensures.left_after))
