use mathlib.Core.Path.{refl, ap, ◌∙◌}
use Rattle.table.specs.declared.Removed.{Removed}
use Rattle.state.specs.declared.Head.{Head}
use Rattle.state.specs.State.{kind_by}
use Rattle.acks.proofs.Parts.{gone-few, gone-is, acted-remove}
use native.Mathlib.Omega.{arith}
use Rattle.engine.proofs.acking.remove.Goals as goal

pub overflow_sub-s : goal.overflow_sub-s
overflow_sub-s c =
    let a = c.args in
    let own = c.requires.0 in
    let e = ap (λ (x : Removed). x.rows) c.remove_range-out.ensures.value ∙ gone-is (kind_by a.d.queue) a.base a.s a.d a.rows.now own a.p in
    let f = gone-few (kind_by a.d.queue) a.base a.s a.d a.rows.now own a.p in
    omega arith

pub overflow_sub-r : goal.overflow_sub-r
overflow_sub-r c =
    let a = c.args in
    let own = c.requires.0 in
    let e = ap (λ (x : Removed). x.rows) c.remove_range-out.ensures.value ∙ gone-is (kind_by a.d.queue) a.base a.s a.d a.rows.now own a.p in
    let f = gone-few (kind_by a.d.queue) a.base a.s a.d a.rows.now own a.p in
    let u = ap (λ (x : Head). x.used) c.count-r.ensures.head in
    omega (arith, own.rows)

pub returns : goal.returns
returns c =
    let a = c.args in
    acted-remove (kind_by a.d.queue) a.base a.s a.d a.rows.now c.requires.0 a.p a.counts a.cause c.count-r.result _ _ _ _ _ a.events.now _
    c.count-r.ensures c.remove_range-out.ensures.rows_after (ap (λ (x : Removed). x.rows) c.remove_range-out.ensures.value) (ap (λ (x : Removed). x.freed) c.remove_range-out.ensures.value) c.saturating_sub.ensures refl
