use Prim.Native.Nat.{ℕ, ◌+◌}
use mathlib.Core.Path.{refl, ap, sym, ◌∙◌}
use lib.ListN.{drop}
use Rattle.texting.specs.Lines.{lines_of}
use Rattle.texting.specs.Parts.{first_bad}
use Rattle.texting.proofs.Taking.{taken, lines_end, bad-none, bad-found, bad-passed}
use native.Mathlib.Omega.{arith}
use Rattle.texting.proofs.first_bad.Goals as goal

pub loop-at-init : goal.loop-at-init
loop-at-init c = refl

pub slice_bounds-fault_of_line-count : goal.slice_bounds-fault_of_line-count
slice_bounds-fault_of_line-count c =
    let a = c.args in
    let s = c.scan-e in
    let w = taken a.text.now c.loop-at.at s.result c.loop-at-test.true s.ensures in
    omega (arith, w.more)

pub slice_bounds-fault_of_line-start : goal.slice_bounds-fault_of_line-start
slice_bounds-fault_of_line-start c =
    let a = c.args in
    let s = c.scan-e in
    let w = taken a.text.now c.loop-at.at s.result c.loop-at-test.true s.ensures in
    omega (arith, w.more)

pub slice_bounds-fault_of_line-end : goal.slice_bounds-fault_of_line-end
slice_bounds-fault_of_line-end c =
    let a = c.args in
    let s = c.scan-e in
    let w = taken a.text.now c.loop-at.at s.result c.loop-at-test.true s.ensures in
    omega (arith, w.within)

pub overflow_add-next : goal.overflow_add-next
overflow_add-next c =
    let a = c.args in
    let s = c.scan-e in
    let w = taken a.text.now c.loop-at.at s.result c.loop-at-test.true s.ensures in
    omega (arith, w.within)

pub returns-then-is_some : goal.returns-then-is_some
returns-then-is_some c =
    let a = c.args in
    let s = c.scan-e in
    let f = c.fault_of_line-wrong in
    let w = taken a.text.now c.loop-at.at s.result c.loop-at-test.true s.ensures in
    bad-found c.loop-at.n c.loop-at.at a.text.now w f.result f.ensures (sym c.is_some.ensures ∙ c.if-is_some.true) ∙ c.loop-at.invariant

pub loop-at-smaller : goal.loop-at-smaller
loop-at-smaller c =
    let a = c.args in
    let s = c.scan-e in
    let w = taken a.text.now c.loop-at.at s.result c.loop-at-test.true s.ensures in
    omega (arith, w.more)

pub loop-at-preserved : goal.loop-at-preserved
loop-at-preserved c =
    let a = c.args in
    let s = c.scan-e in
    let f = c.fault_of_line-wrong in
    let w = taken a.text.now c.loop-at.at s.result c.loop-at-test.true s.ensures in
    ap (λ (m : ℕ). first_bad m (s.result + 1) (lines_of (drop (s.result + 1) a.text.now))) c.more_of-n.ensures ∙ bad-passed c.loop-at.n c.loop-at.at a.text.now w f.result f.ensures (sym c.is_some.ensures ∙ c.if-is_some.false) ∙ c.loop-at.invariant

pub returns : goal.returns
returns c = let a = c.args in sym (bad-none c.loop-at.n c.loop-at.at) ∙ ap (first_bad c.loop-at.n c.loop-at.at) (sym (lines_end a.text.now c.loop-at.at c.loop-at-test.false)) ∙ c.loop-at.invariant
