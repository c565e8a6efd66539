use mathlib.Core.Path.{refl, ◌∙◌}
use mathlib.Core.List.{[], ◌++◌}
use lib.ListN.{take, get_or}
use Rattle.definition.specs.Types.{queue}
use Rattle.definition.specs.Calls.{taken}
use Rattle.definition.specs.Layout.{subs_at}
use Rattle.subrows.proofs.Subs.{rows-item}
use Rattle.shares.specs.Shares.{conns}
use Rattle.sound.proofs.Gathered.{taken-small}
use Rattle.sound.proofs.Connected.{taken_next, taken-end}
use native.Mathlib.Omega.{arith}
use borrow.Author.Rules.{rules}
use Rattle.sound.proofs.taken_conns.Goals as goal

pub loop-w-init : goal.loop-w-init
loop-w-init c = (search rules, search rules, refl, refl)

pub gather-requires : goal.gather-requires
gather-requires c =
    let a = c.args in
    let us = a.subs.now in
    let h = c.loop-w-test.true in
    omega (arith, rows-item us c.loop-w.w-index h, c.taken_of-k.ensures, taken-small (get_or us c.loop-w.w-index []))

pub overflow_add-end : goal.overflow_add-end
overflow_add-end c =
    let a = c.args in
    let us = a.subs.now in
    let h = c.loop-w-test.true in
    omega (arith, rows-item us c.loop-w.w-index h, c.taken_of-k.ensures, taken-small (get_or us c.loop-w.w-index []))

pub overflow_add-base : goal.overflow_add-base
overflow_add-base c =
    let a = c.args in
    let us = a.subs.now in
    let h = c.loop-w-test.true in
    omega (arith, rows-item us c.loop-w.w-index h)

pub overflow_add-base-in-loop-w : goal.overflow_add-base-in-loop-w
overflow_add-base-in-loop-w c =
    let a = c.args in
    let us = a.subs.now in
    let h = c.loop-w-test.true in
    omega (arith, rows-item us c.loop-w.w-index h)

pub loop-w-preserved : goal.loop-w-preserved
loop-w-preserved c =
    let a = c.args in
    let us = a.subs.now in
    let h = c.loop-w-test.true in
    let g = c.gather in
    let k = c.taken_of-k in (
      omega (arith, rows-item us c.loop-w.w-index h),
      omega (arith, k.ensures, taken-small (get_or us c.loop-w.w-index [])),
      g.auto.out ∙ c.loop-w.invariant.2,
      taken_next us c.loop-w.w-index a.rows.now c.loop-w.base a.out.now c.loop-w.out g.new.out a.start c.loop-w.end k.result (take a.start a.out.now ++ conns (taken (subs_at queue us a.rows.now))) c.loop-w.invariant.3 h k.ensures g.ensures,
    )

pub returns : goal.returns
returns c =
    let a = c.args in
    let us = a.subs.now in
    taken-end us c.loop-w.w-index a.rows.now c.loop-w.base a.out.now c.loop-w.out c.loop-w.out a.start c.loop-w.end 0 (take a.start a.out.now ++ conns (taken (subs_at queue us a.rows.now))) c.loop-w.invariant.3 (omega arith)
