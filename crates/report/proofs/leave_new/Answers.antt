use mathlib.Core.Path.{sym, ap, ◌∙◌}
use native.Mathlib.Omega.{arith}
use lib.ListN.{length, take}
use lib.Seq.{sets}
use Rattle.report.proofs.Going.{new_none, new-stays, new-goes}
use Rattle.report.proofs.leave_new.Goals as goal

pub returns-then-code-ne-ENQUEUE : goal.returns-then-code-ne-ENQUEUE
returns-then-code-ne-ENQUEUE c =
    let a = c.args in
    let e = new_none a.code a.words (take a.m a.held.now) c.if-code-ne-ENQUEUE.true in record { value = omega (arith, ap length e); upper_bound = omega arith; left_after = sym (ap (sets a.left.now a.k) e) }

pub returns-then-is_some : goal.returns-then-is_some
returns-then-is_some c =
    let a = c.args in
    let e = new-stays a.code a.words (take a.m a.held.now) c.if-code-ne-ENQUEUE.false (sym c.find.ensures.found ∙ sym c.is_some.ensures ∙ c.if-is_some.true) in record { value = omega (arith, ap length e); upper_bound = omega arith; left_after = sym (ap (sets a.left.now a.k) e) }

pub returns : goal.returns
returns c =
    let a = c.args in
    let e = new-goes a.code a.words (take a.m a.held.now) c.if-code-ne-ENQUEUE.false (sym c.find.ensures.found ∙ sym c.is_some.ensures ∙ c.if-is_some.false) _ c.went.ensures in record { value = omega (arith, ap length e); upper_bound = omega arith; left_after = sym (ap (sets a.left.now a.k) e) }
