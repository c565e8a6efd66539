use mathlib.Core.Path.{refl, sym, ◌∙◌}
use mathlib.Core.Bool.{true}
use mathlib.Core.List.{[]}
use Prim.Native.Nat.{◌+◌}
use borrow.Author.Tests.{not-true, not-false}
use lib.ListN.{take, drop, get_or}
use Rattle.definition.specs.Base.{all}
use Rattle.definition.specs.Words.{at, kind_by}
use Rattle.definition.specs.Layout.{sub_at, each_sub, subs_at}
use Rattle.definition.proofs.Tests.{and_left, and_right}
use Rattle.subrows.specs.Subrows.{seqs_at}
use Rattle.sound.specs.Sound.{apart_by, held_seqs, held_rise}
use Rattle.subrows.proofs.Subs.{rows-item, item_turn, item-stop, item-next, item-end}
use Rattle.sound.proofs.Gathered.{apart-here}
use native.Mathlib.Omega.{arith}
use borrow.Author.Rules.{rules}
use Rattle.sound.proofs.subs_apart.Goals as goal

pub loop-w-init : goal.loop-w-init
loop-w-init c = (search rules, c.requires.rows_value, refl)

pub sub_apart-requires : goal.sub_apart-requires
sub_apart-requires c =
    let a = c.args in
    let us = a.subs.now in
    let h = c.loop-w-test.true in record { w_in_bounds = omega (arith, rows-item us c.loop-w.w-index h); w_bound = omega (arith, rows-item us c.loop-w.w-index h); rows_value = and_left (held_rise a.on_queue (seqs_at (take (at 15 (get_or us c.loop-w.w-index [])) (drop (at 14 (get_or us c.loop-w.w-index [])) (drop c.loop-w.base a.rows.now))))) (all (held_rise a.on_queue) (each_sub held_seqs (drop (c.loop-w.w-index + 1) us) (drop (c.loop-w.base + (at 14 (get_or us c.loop-w.w-index []) + at 15 (get_or us c.loop-w.w-index []))) a.rows.now))) (item_turn us c.loop-w.w-index (held_rise a.on_queue) held_seqs a.rows.now c.loop-w.base true c.loop-w.invariant.1 h) }

pub returns-then-not-sub_apart : goal.returns-then-not-sub_apart
returns-then-not-sub_apart c =
    let a = c.args in
    let us = a.subs.now in
    let h = c.loop-w-test.true in
    let r = c.sub_apart in
    item-stop us c.loop-w.w-index (apart_by (kind_by a.on_queue)) (sub_at (kind_by a.on_queue)) a.rows.now c.loop-w.base (all (apart_by (kind_by a.on_queue)) (subs_at (kind_by a.on_queue) us a.rows.now)) c.loop-w.invariant.2 h (sym (r.ensures ∙ apart-here (get_or us c.loop-w.w-index []) a.rows.now c.loop-w.base a.on_queue) ∙ not-true r.result c.if-not-sub_apart.true-raw)

pub overflow_add-base : goal.overflow_add-base
overflow_add-base c =
    let a = c.args in
    let us = a.subs.now in
    let h = c.loop-w-test.true in
    omega (arith, rows-item us c.loop-w.w-index h)

pub overflow_add-base-in-loop-w : goal.overflow_add-base-in-loop-w
overflow_add-base-in-loop-w c =
    let a = c.args in
    let us = a.subs.now in
    let h = c.loop-w-test.true in
    omega (arith, rows-item us c.loop-w.w-index h)

pub loop-w-preserved : goal.loop-w-preserved
loop-w-preserved c =
    let a = c.args in
    let us = a.subs.now in
    let h = c.loop-w-test.true in
    let r = c.sub_apart in
    (omega (arith, rows-item us c.loop-w.w-index h), and_right (held_rise a.on_queue (seqs_at (take (at 15 (get_or us c.loop-w.w-index [])) (drop (at 14 (get_or us c.loop-w.w-index [])) (drop c.loop-w.base a.rows.now))))) (all (held_rise a.on_queue) (each_sub held_seqs (drop (c.loop-w.w-index + 1) us) (drop (c.loop-w.base + (at 14 (get_or us c.loop-w.w-index []) + at 15 (get_or us c.loop-w.w-index []))) a.rows.now))) (item_turn us c.loop-w.w-index (held_rise a.on_queue) held_seqs a.rows.now c.loop-w.base true c.loop-w.invariant.1 h), item-next us c.loop-w.w-index (apart_by (kind_by a.on_queue)) (sub_at (kind_by a.on_queue)) a.rows.now c.loop-w.base (all (apart_by (kind_by a.on_queue)) (subs_at (kind_by a.on_queue) us a.rows.now)) c.loop-w.invariant.2 h (sym (r.ensures ∙ apart-here (get_or us c.loop-w.w-index []) a.rows.now c.loop-w.base a.on_queue) ∙ not-false r.result c.if-not-sub_apart.false-raw))

pub returns : goal.returns
returns c =
    let a = c.args in
    let us = a.subs.now in
    item-end us c.loop-w.w-index (apart_by (kind_by a.on_queue)) (sub_at (kind_by a.on_queue)) a.rows.now c.loop-w.base (all (apart_by (kind_by a.on_queue)) (subs_at (kind_by a.on_queue) us a.rows.now)) c.loop-w.invariant.2 (omega arith)
