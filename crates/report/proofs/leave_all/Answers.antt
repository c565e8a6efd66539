use mathlib.Core.Path.{sym, ap, ◌∙◌}
use native.Mathlib.Nat.{zero-add}
use native.Mathlib.Omega.{arith}
use lib.ListN.{length, take}
use lib.Seq.{sets}
use Rattle.report.proofs.Going.{opens-none, both-many, both-put}
use Rattle.report.proofs.leave_all.Goals as goal

pub returns-then-code-eq-OPEN : goal.returns-then-code-eq-OPEN
returns-then-code-eq-OPEN c =
    let a = c.args in
    let e = opens-none a.code a.words (take a.m a.held.now) (take a.n a.blocks.now) c.if-code-eq-OPEN.true in record { value = omega (arith, ap length e); upper_bound = omega arith; left_after = sym (ap (sets a.left.now 0) e) }

pub returns : goal.returns
returns c =
    let n = c.leave_new in
    let l = c.leave-k in
    let k = l.ensures.value ∙ zero-add _ in
    let o = c.if-code-eq-OPEN.false in
    let a = c.args in record { value = both-many a.code a.words (take a.m a.held.now) (take a.n a.blocks.now) o l.result n.result k n.ensures.value; upper_bound = omega (arith, l.ensures.upper_bound, n.ensures.upper_bound); left_after = both-put a.code a.words (take a.m a.held.now) (take a.n a.blocks.now) o l.result n.result k n.ensures.value a.left.now _ _ l.ensures.left_after n.ensures.left_after }
