use mathlib.Core.Path.{sym, ◌∙◌}
use Prim.Native.Nat.{◌+◌, ◌≤◌}
use borrow.Author.Tests.{not-true, not-false}
use lib.Seq.{slice}
use Rattle.subrows.specs.Subrows.{sorted_ok}
use Rattle.subrows.proofs.Rows.{climb-first, climb-stop, climb-next, climb-end, four-stop, four-next}
use native.Mathlib.Omega.{arith}
use borrow.Author.Rules.{rules}
use Rattle.subrows.proofs.sorted_ok.Goals as goal

pub loop-i-init : goal.loop-i-init
loop-i-init c = (search rules, climb-first (slice c.args.from c.args.to c.args.rows.now))

pub returns-then-not-four_follow : goal.returns-then-not-four_follow
returns-then-not-four_follow c =
    let a = c.args in
    let rows = a.rows.now in
    let g = c.four_follow in
    let h : c.loop-i.i + 4 ≤ a.to = omega arith in
    four-stop rows c.loop-i.i a.to c.requires.to_in_bounds (sorted_ok 0 (slice a.from a.to rows)) c.loop-i.last c.loop-i.invariant.1 h g.ensures.row_form (sym g.ensures.value ∙ not-true g.result c.if-not-four_follow.true-raw)

pub loop-i-preserved : goal.loop-i-preserved
loop-i-preserved c =
    let a = c.args in
    let rows = a.rows.now in
    let g = c.four_follow in
    let h : c.loop-i.i + 4 ≤ a.to = omega arith in
    (search rules, four-next rows c.loop-i.i a.to c.requires.to_in_bounds (sorted_ok 0 (slice a.from a.to rows)) c.loop-i.last c.loop-i.invariant.1 h g.ensures.row_form (sym g.ensures.value ∙ not-false g.result c.if-not-four_follow.false-raw))

pub returns-then-not-follows : goal.returns-then-not-follows
returns-then-not-follows c =
    let a = c.args in
    let rows = a.rows.now in
    let g = c.follows in
    climb-stop rows c.loop-i-2.i a.to c.requires.to_in_bounds (sorted_ok 0 (slice a.from a.to rows)) c.loop-i-2.last c.loop-i-2.invariant.1 c.loop-i-2-test.true g.ensures.row_form (sym g.ensures.value ∙ not-true g.result c.if-not-follows.true-raw)

pub loop-i-2-preserved : goal.loop-i-2-preserved
loop-i-2-preserved c =
    let a = c.args in
    let rows = a.rows.now in
    let g = c.follows in
    (search rules, climb-next rows c.loop-i-2.i a.to c.requires.to_in_bounds (sorted_ok 0 (slice a.from a.to rows)) c.loop-i-2.last c.loop-i-2.invariant.1 c.loop-i-2-test.true g.ensures.row_form (sym g.ensures.value ∙ not-false g.result c.if-not-follows.false-raw))

pub returns : goal.returns
returns c =
    let a = c.args in
    let rows = a.rows.now in
    climb-end rows c.loop-i-2.i a.to c.requires.to_in_bounds (sorted_ok 0 (slice a.from a.to rows)) c.loop-i-2.last c.loop-i-2.invariant.1 (omega arith)
