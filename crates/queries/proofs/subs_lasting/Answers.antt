use mathlib.Core.Path.{sym, ◌∙◌}
use mathlib.Core.List.{[]}
use native.Mathlib.Omega.{arith}
use borrow.Author.Tests.{not-true, not-false}
use lib.ListN.{get_or}
use Rattle.definition.specs.Base.{all}
use Rattle.definition.specs.Words.{kind_by}
use Rattle.definition.specs.Layout.{subs_at, sub_at}
use Rattle.subrows.proofs.Subs.{rows-item, item-stop, item-next, item-end}
use Rattle.queries.specs.Answers.{sub_lasts}
use Rattle.queries.proofs.Answered.{sub-placed}
use Rattle.queries.proofs.subs_lasting.Goals as goal

pub overflow_add-k : goal.overflow_add-k
overflow_add-k c =
    let a = c.args in
    let h = c.loop-w-test.true in
    let r = rows-item a.subs.now c.loop-w.w-index h in
    omega (arith, r, c.loop-w.invariant.0, c.requires)

pub overflow_add-base : goal.overflow_add-base
overflow_add-base c =
    let a = c.args in
    let h = c.loop-w-test.true in
    let r = rows-item a.subs.now c.loop-w.w-index h in
    omega (arith, r, c.loop-w.invariant.0, c.requires)

pub overflow_add-base-in-loop-w : goal.overflow_add-base-in-loop-w
overflow_add-base-in-loop-w c =
    let a = c.args in
    let h = c.loop-w-test.true in
    let r = rows-item a.subs.now c.loop-w.w-index h in
    omega (arith, r, c.loop-w.invariant.0, c.requires)

pub held_lasting-requires : goal.held_lasting-requires
held_lasting-requires c =
    let a = c.args in
    let h = c.loop-w-test.true in
    let r = rows-item a.subs.now c.loop-w.w-index h in record { from_le_to = omega arith; to_in_bounds = omega (arith, r, c.loop-w.invariant.0, c.requires) }

pub returns-then-not-held_lasting : goal.returns-then-not-held_lasting
returns-then-not-held_lasting c =
    let a = c.args in
    let h = c.loop-w-test.true in
    let r = rows-item a.subs.now c.loop-w.w-index h in
    item-stop a.subs.now c.loop-w.w-index sub_lasts (sub_at (kind_by a.on_queue)) a.rows.now c.loop-w.base (all sub_lasts (subs_at (kind_by a.on_queue) a.subs.now a.rows.now)) c.loop-w.invariant.1 h (sub-placed a.on_queue (get_or a.subs.now c.loop-w.w-index []) a.rows.now c.loop-w.base (omega (arith, r, c.loop-w.invariant.0, c.requires)) ∙ sym c.held_lasting.ensures ∙ not-true _ c.if-not-held_lasting.true-raw)

pub overflow_add-base-in-loop-w-2 : goal.overflow_add-base-in-loop-w-2
overflow_add-base-in-loop-w-2 c =
    let a = c.args in
    let h = c.loop-w-test.true in
    let r = rows-item a.subs.now c.loop-w.w-index h in
    omega (arith, r, c.loop-w.invariant.0, c.requires)

pub loop-w-preserved : goal.loop-w-preserved
loop-w-preserved c =
    let a = c.args in
    let h = c.loop-w-test.true in
    let r = rows-item a.subs.now c.loop-w.w-index h in
    (omega (arith, r, c.loop-w.invariant.0), item-next a.subs.now c.loop-w.w-index sub_lasts (sub_at (kind_by a.on_queue)) a.rows.now c.loop-w.base (all sub_lasts (subs_at (kind_by a.on_queue) a.subs.now a.rows.now)) c.loop-w.invariant.1 h (sub-placed a.on_queue (get_or a.subs.now c.loop-w.w-index []) a.rows.now c.loop-w.base (omega (arith, r, c.loop-w.invariant.0, c.requires)) ∙ sym c.held_lasting.ensures ∙ not-false _ c.if-not-held_lasting.false-raw))

pub returns : goal.returns
returns c =
    let a = c.args in
    item-end a.subs.now c.loop-w.w-index sub_lasts (sub_at (kind_by a.on_queue)) a.rows.now c.loop-w.base (all sub_lasts (subs_at (kind_by a.on_queue) a.subs.now a.rows.now)) c.loop-w.invariant.1 (omega arith)
