use native.Mathlib.Omega.{arith}
use Rattle.joins.proofs.Outcomes.{few-gone, used-less, copy-fits, browse-done}
use Rattle.joins.proofs.browse.Goals as goal

pub purge-gone-requires : goal.purge-gone-requires
purge-gone-requires c =
    let b = c.requires in
    let q = c.first_waiting.ensures in
    (omega arith, omega (arith, b.room), b.clock)

pub overflow_sub-d : goal.overflow_sub-d
overflow_sub-d c =
    let a = c.args in
    (few-gone a.by a.selector a.k a.d a.rows.now _ _ 0 0 a.d _ a.rows.now c.first_waiting.ensures c.purge-gone.ensures.value c.purge-gone.ensures.rows_after c.requires).1

pub overflow_sub-d-2 : goal.overflow_sub-d-2
overflow_sub-d-2 c =
    let a = c.args in
    (few-gone a.by a.selector a.k a.d a.rows.now _ _ 0 0 a.d _ a.rows.now c.first_waiting.ensures c.purge-gone.ensures.value c.purge-gone.ensures.rows_after c.requires).0

pub overflow_add-d : goal.overflow_add-d
overflow_add-d c =
    let a = c.args in
    let l = used-less a.by a.selector a.k a.d a.rows.now _ _ 0 0 _ _ a.rows.now c.first_waiting.ensures c.purge-gone.ensures.value c.purge-gone.ensures.rows_after c.count_expired-d.ensures in
    omega (arith, c.requires.few)

pub copy_shown-requires : goal.copy_shown-requires
copy_shown-requires c =
    let a = c.args in
    copy-fits a.by a.selector a.k a.d a.rows.now _ _ _ _ _ _ _ c.first_waiting.ensures c.purge-gone.ensures.value c.purge-gone.ensures.rows_after c.count_expired-d.ensures c.first_reserved-at.ensures c.open_gap.ensures c.first_waiting-2.ensures c.requires

pub returns : goal.returns
returns c =
    let a = c.args in
    browse-done a.by a.selector a.k a.d a.rows.now _ _ _ _ _ _ _ c.first_waiting.ensures c.purge-gone.ensures.value c.purge-gone.ensures.rows_after c.count_expired-d.ensures c.first_reserved-at.ensures c.open_gap.ensures c.first_waiting-2.ensures _ c.copy_shown.ensures
