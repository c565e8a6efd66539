use mathlib.Core.Path.{refl}
use Rattle.report.proofs.Seeking.{seek_found, seek-next, seek-none}
use native.Mathlib.Omega.{arith}
use borrow.Author.Rules.{rules}
use Rattle.report.proofs.seek.Goals as goal

pub loop-i-init : goal.loop-i-init
loop-i-init c = (search rules, refl)

pub returns-then-blocks-i : goal.returns-then-blocks-i
returns-then-blocks-i c =
    let l = c.loop-i in
    let a = c.args in
    record { found = seek_found a.seq a.blocks.now l.i a.to c.requires.to_bound _ l.invariant.1 c.loop-i-test.true c.if-blocks-i.true; place = c.loop-i-test.true }

pub loop-i-preserved : goal.loop-i-preserved
loop-i-preserved c =
    let l = c.loop-i in
    let a = c.args in
    (search rules, seek-next a.seq a.blocks.now l.i a.to c.requires.to_bound _ l.invariant.1 c.loop-i-test.true c.if-blocks-i.false)

pub returns : goal.returns
returns c =
    let l = c.loop-i in
    let a = c.args in
    record { found = seek-none a.seq a.blocks.now l.i a.to c.requires.to_bound _ l.invariant.1 (omega arith); place = tt }
