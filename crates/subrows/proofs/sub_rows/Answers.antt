use mathlib.Core.Path.{◌≡◌, ◌∙◌}
use Prim.Native.Nat.{◌-◌}
use Rattle.definition.specs.Layout.{sub_rows}
use Rattle.subrows.proofs.Subs.{rows-item, rows-done, rows_in_lem, rows-over}
use native.Mathlib.Omega.{arith}
use borrow.Author.Rules.{rules}
use Rattle.subrows.proofs.sub_rows.Goals as goal

pub returns-then-room-inflight : goal.returns-then-room-inflight
returns-then-room-inflight c =
    let us = c.args.subs.now in
    rows-over (sub_rows us) (omega (arith, rows-item us c.loop-w.w-index c.loop-w-test.true))

pub returns-then-room-held : goal.returns-then-room-held
returns-then-room-held c =
    let us = c.args.subs.now in
    rows-over (sub_rows us) (omega (arith, rows-item us c.loop-w.w-index c.loop-w-test.true))

pub loop-w-preserved : goal.loop-w-preserved
loop-w-preserved c = (search rules, omega (arith, rows-item c.args.subs.now c.loop-w.w-index c.loop-w-test.true))

pub returns : goal.returns
returns c =
    let us = c.args.subs.now in
    let e : 512 - c.loop-w.room ≡ sub_rows us = omega (arith, rows-done us c.loop-w.w-index c.loop-w-test.false) in
    e ∙ rows_in_lem (sub_rows us) (omega arith)
