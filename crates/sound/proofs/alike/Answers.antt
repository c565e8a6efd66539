use mathlib.Core.Path.{◌≡◌, refl, sym, ap, ◌∙◌}
use mathlib.Core.Bool.{false≢true}
use mathlib.Core.List.{[]}
use Prim.Native.Nat.{ℕ, ◌+◌}
use borrow.Author.Tests.{not-false}
use lib.ListN.{take, get_or}
use Rattle.definition.specs.Base.{all}
use Rattle.definition.specs.Words.{at}
use Rattle.definition.specs.Layout.{sub_rows}
use Rattle.subrows.proofs.Subs.{rows-item, rows-done}
use Rattle.sound.proofs.Hub.{copy, copies-sizes, hub, more-copies}
use native.Mathlib.Omega.{arith}
use borrow.Author.Rules.{rules}
use Rattle.sound.proofs.alike.Goals as goal

pub returns-then-on_queue : goal.returns-then-on_queue
returns-then-on_queue c = λ t. absurd (false≢true t)

pub loop-w-init : goal.loop-w-init
loop-w-init c = (search rules, λ d. refl)

pub overflow_add-k : goal.overflow_add-k
overflow_add-k c =
    let a = c.args in
    omega (arith, rows-item a.subs.now c.loop-w.w-index c.loop-w-test.true)

pub alike_at-requires : goal.alike_at-requires
alike_at-requires c =
    let a = c.args in record { many_le_end = c.most_rows-hub.ensures.room; end_in_bounds = omega arith; k_in_bounds = omega (arith, rows-item a.subs.now c.loop-w.w-index c.loop-w-test.true) }

pub returns-then-not-alike_at : goal.returns-then-not-alike_at
returns-then-not-alike_at c = λ t. absurd (false≢true t)

pub overflow_add-base : goal.overflow_add-base
overflow_add-base c =
    let a = c.args in
    omega (arith, rows-item a.subs.now c.loop-w.w-index c.loop-w-test.true)

pub loop-w-preserved : goal.loop-w-preserved
loop-w-preserved c =
    let a = c.args in
    let us = a.subs.now in
    let rows = a.rows.now in
    let x = get_or us c.loop-w.w-index [] in
    let span = c.most_rows-hub.result in
    let m = c.most_rows-hub.ensures in
    let r = c.alike_at in
    let turn = rows-item us c.loop-w.w-index c.loop-w-test.true in (
      omega arith,
      λ d. more-copies rows c.loop-w.base (at 14 x + at 15 x) span.end span.many (m.apart rows d) m.room (omega arith) (omega arith) (r.ensures (not-false r.result c.if-not-alike_at.false-raw)) (c.loop-w.invariant.1 d),
    )

pub returns : goal.returns
returns c =
    let a = c.args in
    let us = a.subs.now in
    let rows = a.rows.now in
    let span = c.most_rows-hub.result in
    let e : c.loop-w.base ≡ sub_rows us = omega (arith, rows-done us c.loop-w.w-index (omega arith)) in
    let h = hub span.end span.many rows in
    λ t. record {
      on-topic = c.if-on_queue.false;
      agree = λ d. copies-sizes h (sub_rows us) rows (sym (ap (λ (j : ℕ). all (copy h) (take j rows)) e) ∙ c.loop-w.invariant.1 d);
    }
