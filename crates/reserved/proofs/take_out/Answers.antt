use mathlib.Core.Path.{ap}
use lib.ListN.{length}
use Rattle.state.specs.declared.Head.{Head}
use Rattle.reserved.specs.Reserved.{wants_row}
use Rattle.reserved.proofs.Taking.{gone-few, takes_at}
use native.Mathlib.Omega.{arith}
use Rattle.reserved.proofs.take_out.Goals as goal

pub overflow_sub-r : goal.overflow_sub-r
overflow_sub-r c =
    let a = c.args in
    let h = c.requires in
    let g = gone-few (wants_row a.id a.p) a.d a.rows.now (length a.events.now) _ _ h c.first_reserved-from.ensures c.first_waiting-to.ensures in
    let e = ap (λ (x : Head). x.reserved) c.tell-r.ensures.head in
    omega (arith, c.remove-gone.ensures.value)

pub overflow_sub-r-2 : goal.overflow_sub-r-2
overflow_sub-r-2 c =
    let a = c.args in
    let h = c.requires in
    let g = gone-few (wants_row a.id a.p) a.d a.rows.now (length a.events.now) _ _ h c.first_reserved-from.ensures c.first_waiting-to.ensures in
    let e = ap (λ (x : Head). x.used) c.tell-r.ensures.head in
    omega (arith, c.remove-gone.ensures.value, h.rows)

pub returns : goal.returns
returns c =
    let a = c.args in
    takes_at a.id a.counts a.p a.d c.tell-r.result _ _ a.rows.now a.events.now _ _ c.requires _ _ c.first_reserved-from.ensures c.first_waiting-to.ensures c.tell-r.ensures c.remove-gone.ensures.value c.remove-gone.ensures.rows_after c.counted.ensures
