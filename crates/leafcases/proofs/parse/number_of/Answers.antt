use native.Mathlib.Omega.{arith}
use mathlib.Core.Path.{sym, ◌∙◌}
use lib.ListN.{length, drop, length-drop}
use lib.Seq.{take_all}
use Prim.Native.Nat.{◌-◌}
use borrow.Author.Rules.{rules}
use borrow.Author.Tests.{eq-eqb, ne_eqb}
use Rattle.leafcases.proofs.Text.{no_number, some_number}
use Rattle.leafcases.proofs.parse.number_of.Goals as goal

pub returns-then-is_empty : goal.returns-then-is_empty
returns-then-is_empty c = no_number c.args.s.now (search rules)

pub returns-in_err-digits_of : goal.returns-in_err-digits_of
returns-in_err-digits_of c =
    let s = c.args.s.now in
    let all = take_all (length s - 1) (drop 1 s) (simp length-drop (omega arith)) in
    let e = rw all at c.digits_of.ensures in
    c.from_residual.ensures ∙ rw (some_number s (search rules), eq-eqb _ _ c.if-s-eq45.true, sym e ∙ c.in_err-digits_of.was)

pub returns-then-s-eq45 : goal.returns-then-s-eq45
returns-then-s-eq45 c =
    let s = c.args.s.now in
    let all = take_all (length s - 1) (drop 1 s) (simp length-drop (omega arith)) in
    let e = rw all at c.digits_of.ensures in
    c.negative.ensures ∙ rw (some_number s (search rules), eq-eqb _ _ c.if-s-eq45.true, sym e ∙ c.in_ok-digits_of.was)

pub returns-in_err-digits_of-2 : goal.returns-in_err-digits_of-2
returns-in_err-digits_of-2 c =
    let s = c.args.s.now in
    c.from_residual-in_err-digits_of-2.ensures ∙ rw (some_number s (search rules), ne_eqb _ _ c.if-s-eq45.false, sym c.digits_of-2.ensures ∙ c.in_err-digits_of-2.was)

pub returns : goal.returns
returns c =
    let s = c.args.s.now in
    c.positive.ensures ∙ rw (some_number s (search rules), ne_eqb _ _ c.if-s-eq45.false, sym c.digits_of-2.ensures ∙ c.in_ok-digits_of-2.was)
