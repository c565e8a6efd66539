use native.Mathlib.Omega.{arith}
use borrow.Author.Rules.{rules}
use Rattle.queues.proofs.Looking.{passed-four}
use Rattle.queues.proofs.passed.Goals as goal

pub loop-i-init : goal.loop-i-init
loop-i-init c = record { low = omega arith; high = search rules; each = λ k a b. absurd (omega arith) }

pub loop-i-preserved : goal.loop-i-preserved
loop-i-preserved c =
    let a = c.args in
    let l = c.loop-i in
    passed-four a.from a.to a.cursor a.rows.now l.i l.invariant c.loop-i-test.true c.if-cursor-a.false
