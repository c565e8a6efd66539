use mathlib.Core.Path.{ap, ◌∙◌}
use Rattle.entry.specs.Entry.{row_of}
use Rattle.state.specs.declared.Head.{Head}
use Rattle.state.specs.State.{first_waiting}
use Rattle.table.specs.Table.{place_of, insert_row}
use Rattle.consumers.specs.Table.{on_first, held_back_row}
use Rattle.engine.specs.Storing.{queued_head}
use Rattle.engine.specs.Arrivals.{Arrives}
use Rattle.engine.proofs.Stored.{arrives, stored-queue, stored-topic}
use native.Mathlib.Omega.{arith}
use Rattle.engine.proofs.storing.store.Goals as goal
use Rattle.engine.proofs.storing.store.Goals.{After-count_enqueued-counted}

ready : (c : After-count_enqueued-counted) → let a = c.args in Arrives a.e c.count_enqueued-counted.result a.subs.now a.rows.now
ready c =
    let a = c.args in
    rw c.count_enqueued-counted.ensures (arrives a.by a.e a.d a.subs.now a.rows.now c.requires.0 c.requires.1)

pub queued-requires : goal.queued-requires
queued-requires c = let r = ready (goal.at.queued-requires c).After-count_enqueued-counted in (omega (arith, r.room), omega (arith, r.room, r.rows_long), omega (arith, r.room, r.rows-used), r.order.waiting)

pub returns-then-d : goal.returns-then-d
returns-then-d c =
    let a = c.args in
    let e = c.count_enqueued-counted.ensures in
    let q = c.queued.ensures in
    stored-queue a.by a.e a.d a.subs.now a.rows.now c.requires.0 c.requires.1 _ _ _ c.if-d.true
    (q.value ∙ ap queued_head e) (q.subs_after ∙ ap (λ (x : Head). on_first (held_back_row a.e.seq) x.consumers a.subs.now) e)
    (q.rows_after ∙ ap (λ (x : Head). insert_row (place_of (first_waiting x) x.used a.e.seq a.rows.now) x.used (row_of a.e 0 0 0) a.rows.now) e)

pub fan_out_all-requires : goal.fan_out_all-requires
fan_out_all-requires c =
    (ready (goal.at.fan_out_all-requires c).After-count_enqueued-counted, ap (λ (y : Head). y.queue) c.count_enqueued-counted.ensures ∙ c.if-d.false, c.requires.2)

pub returns : goal.returns
returns c =
    let a = c.args in
    stored-topic a.by a.e a.d a.subs.now a.rows.now c.requires.0 c.requires.1 _ _ _ _ c.count_enqueued-counted.ensures c.if-d.false c.fan_out_all.ensures
