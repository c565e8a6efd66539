use mathlib.Core.Path.{refl, sym, ◌∙◌}
use Prim.Native.Nat.{◌+◌, ◌-◌, ◌≤◌}
use native.Mathlib.Omega.{arith}
use borrow.Author.Rules.{rules}
use borrow.Author.Tests.{le-leb, lt-leb}
use lib.ListN.{length, drop, length-set, length-drop}
use mir.Syntax.{w64}
use mir.Val.{SFits}
use mir.ValLaws.{to_z-of_z}
use Rattle.leafcases.specs.Parse.{word_length, values_of}
use Rattle.leafcases.proofs.Text.{values-step, word-within, words-end}
use Rattle.leafcases.proofs.parse.values_from.Goals as goal

pub loop-at-init : goal.loop-at-init
loop-at-init c = (refl, refl)

pub slice_bounds-number_of-end : goal.slice_bounds-number_of-end
slice_bounds-number_of-end c =
    let s = c.args.s.now in
    let start = c.loop-at.at + 1 in
    let h : word_length (drop start s) ≤ length s - start = rw length-drop at (word-within (drop start s)) in
    omega (arith, c.word_end-at.ensures)

pub returns-in_err-v : goal.returns-in_err-v
returns-in_err-v c =
    let s = c.args.s.now in
    let l = c.loop-at in
    let w = c.word_end-at in
    let e = sym c.number_of.ensures ∙ c.in_err-v.was in
    c.from_residual.ensures ∙ sym (l.invariant.0 ∙ values-step s l.at w.result l.count l.values (search rules) w.ensures ∙ rw e)

pub returns-then-count-ge-MOST : goal.returns-then-count-ge-MOST
returns-then-count-ge-MOST c =
    let s = c.args.s.now in
    let l = c.loop-at in
    let w = c.word_end-at in
    let e = sym c.number_of.ensures ∙ c.in_ok-v.was in
    sym (l.invariant.0 ∙ values-step s l.at w.result l.count l.values (search rules) w.ensures ∙ rw (e, le-leb _ _ c.if-count-ge-MOST.true))

pub loop-at-preserved : goal.loop-at-preserved
loop-at-preserved c =
    let s = c.args.s.now in
    let l = c.loop-at in
    let w = c.word_end-at in
    let v = c.in_ok-v.v in
    let e = sym c.number_of.ensures ∙ c.in_ok-v.was in
    let f : SFits w64 v = search rules in
    let u = rw (to_z-of_z w64 v f) at c.word_of.ensures in (
      l.invariant.0 ∙ values-step s l.at w.result l.count l.values (search rules) w.ensures
          ∙ rw (e, lt-leb _ _ c.if-count-ge-MOST.false, u),
      simp length-set l.invariant.1,
    )

pub returns : goal.returns
unfolding values_of
returns c =
    let s = c.args.s.now in
    let l = c.loop-at in
    sym (l.invariant.0 ∙ rw (words-end s l.at (search rules)))
