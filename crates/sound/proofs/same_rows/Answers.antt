use mathlib.Core.Bool.{false≢true}
use mathlib.Core.List.{[]}
use Prim.Native.Nat.{◌+◌}
use borrow.Author.Tests.{eqb-true}
use lib.Dec.{eqb}
use lib.ListN.{get_or}
use Rattle.definition.specs.Words.{at}
use Rattle.sound.proofs.Hub.{no_difference, same_place, same_more}
use native.Mathlib.Omega.{arith}
use borrow.Author.Rules.{rules}
use Rattle.sound.proofs.same_rows.Goals as goal

pub returns-then-a-b : goal.returns-then-a-b
returns-then-a-b c = let a = c.args in λ t. same_place a.rows.now a.a a.b a.k c.if-a-b.true

pub loop-i-init : goal.loop-i-init
loop-i-init c = (search rules, λ j h. absurd (omega arith))

pub returns-then-x-y : goal.returns-then-x-y
returns-then-x-y c = λ t. absurd (false≢true t)

pub loop-i-preserved : goal.loop-i-preserved
loop-i-preserved c =
    let a = c.args in
    let rows = a.rows.now in
    let i = c.loop-i.i in
    let x = get_or rows (a.a + i) [] in
    let y = get_or rows (a.b + i) [] in
    let e = no_difference (eqb (at 0 x) (at 0 y)) (eqb (at 9 x) (at 9 y)) c.if-x-y.false in
    (search rules, same_more rows a.a a.b i c.loop-i.invariant.1 (eqb-true (at 0 x) (at 0 y) e.0) (eqb-true (at 9 x) (at 9 y) e.1))

pub returns : goal.returns
returns c =
    λ t j h. c.loop-i.invariant.1 j (omega arith)
