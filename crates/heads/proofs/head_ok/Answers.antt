use mathlib.Core.Path.{sym, ◌∙◌}
use borrow.Author.Tests.{not-true, not-false}
use Rattle.heads.proofs.Head.{head-stop, head-rest, limits-used}
use native.Mathlib.Omega.{arith}
use Rattle.heads.proofs.head_ok.Goals as goal

pub returns-then-not-limits_ok : goal.returns-then-not-limits_ok
returns-then-not-limits_ok c =
    let h = c.args.head.now in
    head-stop h (sym c.limits_ok.ensures ∙ not-true c.limits_ok.result c.if-not-limits_ok.true-raw)

pub overflow_mul-head : goal.overflow_mul-head
overflow_mul-head c =
    let l = c.limits_ok in
    omega (arith, limits-used c.args.head.now (sym l.ensures ∙ not-false l.result c.if-not-limits_ok.false-raw))

pub overflow_add-head : goal.overflow_add-head
overflow_add-head c =
    let l = c.limits_ok in
    omega (arith, limits-used c.args.head.now (sym l.ensures ∙ not-false l.result c.if-not-limits_ok.false-raw))

pub returns : goal.returns
returns c =
    let h = c.args.head.now in
    let l = c.limits_ok in
    rw (c.counts_ok.ensures, c.marks_ok.ensures, c.counters_ok.ensures) (head-rest h (sym l.ensures ∙ not-false l.result c.if-not-limits_ok.false-raw))
