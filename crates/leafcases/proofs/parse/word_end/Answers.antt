use mathlib.Core.Path.{refl}
use native.Mathlib.Omega.{arith}
use borrow.Author.Rules.{rules}
use Rattle.leafcases.proofs.Text.{at-space, at_other, at-end}
use Rattle.leafcases.proofs.parse.word_end.Goals as goal

pub loop-i-init : goal.loop-i-init
loop-i-init c = refl

pub returns-then-s-i-eq32 : goal.returns-then-s-i-eq32
returns-then-s-i-eq32 c =
    let s = c.args.s.now in
    let l = c.loop-i in
    omega (arith, l.invariant, at-space s l.i (search rules) c.if-s-i-eq32.true)

pub loop-i-preserved : goal.loop-i-preserved
loop-i-preserved c =
    let s = c.args.s.now in
    let l = c.loop-i in
    omega (arith, l.invariant, at_other s l.i (search rules) c.if-s-i-eq32.false)

pub returns : goal.returns
returns c =
    let s = c.args.s.now in
    let l = c.loop-i in
    omega (arith, l.invariant, at-end s l.i (search rules))
