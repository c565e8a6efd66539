use mathlib.Core.List.{[]}
use lib.ListN.{get_or}
use Rattle.dispatch.proofs.Idle.{can-queue, can-topic}
use Rattle.dispatch.proofs.can_go.Goals as goal

pub returns-then-queue : goal.returns-then-queue
returns-then-queue c =
    let a = c.args in
    let s = c.load-s in
    let h = c.has_credit-credit in
    can-queue a.waiting a.queue (get_or a.subs.now a.i []) s.result s.ensures h.result h.ensures c.if-queue.true

pub returns : goal.returns
returns c =
    let a = c.args in
    let s = c.load-s in
    let h = c.has_credit-credit in
    can-topic a.waiting a.queue (get_or a.subs.now a.i []) s.result s.ensures h.result h.ensures c.if-queue.false
