use mathlib.Core.Path.{sym, ◌∙◌}
use borrow.Author.Tests.{not-true, not-false}
use Rattle.heads.proofs.Head.{head-short, head-unsound, head-rings, head-counts}
use native.Mathlib.Omega.{arith}
use borrow.Author.Rules.{rules}
use Rattle.heads.proofs.sound.Goals as goal

pub returns-then-head-lt8347 : goal.returns-then-head-lt8347
returns-then-head-lt8347 c = head-short c.args.head.now (omega arith)

pub returns-then-not-head_ok : goal.returns-then-not-head_ok
returns-then-not-head_ok c =
    let f = c.head_ok in
    head-unsound c.args.head.now (omega arith) (sym f.ensures ∙ not-true f.result c.if-not-head_ok.true-raw)

pub rings_ok-requires : goal.rings_ok-requires
rings_ok-requires c =
    let f = c.head_ok in record { in_bounds = search rules; n_bound = (head-counts c.args.head.now (sym f.ensures ∙ not-false f.result c.if-not-head_ok.false-raw)).1 }

pub returns : goal.returns
returns c =
    let f = c.head_ok in
    c.rings_ok.ensures ∙ head-rings c.args.head.now (omega arith) (sym f.ensures ∙ not-false f.result c.if-not-head_ok.false-raw)
