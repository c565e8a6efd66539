use Rattle.std.proofs.Common.{◌∙◌, sym, arith}
use Rattle.copies.proofs.Laws.{agree-more, agree-stop, agree-none, agree-all, alike-after}
use Rattle.copies.proofs.few_agree.Goals as goal

pub loop-i-init : goal.loop-i-init
loop-i-init c = agree-none c.args.n c.args.rows.now

pub returns-then-not-alike : goal.returns-then-not-alike
returns-then-not-alike c =
    let a = c.args in
    agree-stop a.rows.now c.loop-i.i a.n c.requires c.loop-i-test.true c.loop-i.auto.i (alike-after a.rows.now c.loop-i.i a.n c.requires c.loop-i-test.true c.loop-i.auto.i ∙ sym c.alike.ensures ∙ c.if-not-alike.true)

pub loop-i-preserved : goal.loop-i-preserved
loop-i-preserved c =
    let a = c.args in
    agree-more a.rows.now c.loop-i.i a.n c.requires c.loop-i-test.true c.loop-i.auto.i c.loop-i.invariant (alike-after a.rows.now c.loop-i.i a.n c.requires c.loop-i-test.true c.loop-i.auto.i ∙ sym c.alike.ensures ∙ c.if-not-alike.false)

pub returns : goal.returns
returns c = agree-all c.loop-i.i c.args.n c.args.rows.now (omega (arith, c.loop-i-test.false)) c.loop-i.invariant
