use mathlib.Core.Path.{refl, ap, sym, ◌∙◌}
use Rattle.texting.specs.Parts.{fill_from}
use Rattle.texting.proofs.Taking.{taken, lines_end, fill_none, fill-stopped, fill-passed, fills}
use native.Mathlib.Omega.{arith}
use borrow.Author.Rules.{rules}
use Rattle.texting.proofs.take_lines.Goals as goal

pub loop-at-init : goal.loop-at-init
loop-at-init c = (refl, refl)

pub returns-then-count-gt6 : goal.returns-then-count-gt6
returns-then-count-gt6 c = let a = c.args in let g = c.loop-at in fills (fill-stopped g.block g.count g.at a.text.now c.loop-at-test.true (omega arith) ∙ g.invariant.1)

pub slice_bounds-parse-count : goal.slice_bounds-parse-count
slice_bounds-parse-count c =
    let a = c.args in
    let s = c.scan-e in
    let w = taken a.text.now c.loop-at.at s.result c.loop-at-test.true s.ensures in
    omega (arith, w.more)

pub slice_bounds-parse-start : goal.slice_bounds-parse-start
slice_bounds-parse-start c =
    let a = c.args in
    let s = c.scan-e in
    let w = taken a.text.now c.loop-at.at s.result c.loop-at-test.true s.ensures in
    omega (arith, w.more)

pub slice_bounds-parse-end : goal.slice_bounds-parse-end
slice_bounds-parse-end c =
    let a = c.args in
    let s = c.scan-e in
    let w = taken a.text.now c.loop-at.at s.result c.loop-at-test.true s.ensures in
    omega (arith, w.within)

pub overflow_add-at : goal.overflow_add-at
overflow_add-at c =
    let a = c.args in
    let s = c.scan-e in
    let w = taken a.text.now c.loop-at.at s.result c.loop-at-test.true s.ensures in
    omega (arith, w.within)

pub loop-at-smaller : goal.loop-at-smaller
loop-at-smaller c =
    let a = c.args in
    let s = c.scan-e in
    let w = taken a.text.now c.loop-at.at s.result c.loop-at-test.true s.ensures in
    omega (arith, w.more)

pub loop-at-preserved : goal.loop-at-preserved
loop-at-preserved c =
    let a = c.args in
    let s = c.scan-e in
    let w = taken a.text.now c.loop-at.at s.result c.loop-at-test.true s.ensures in
    let r = c.add_call-count.ensures in
    (search rules, fill-passed c.loop-at.block c.loop-at.count c.loop-at.at a.text.now w (omega arith) c.parse-p.ensures r.0 r.1 ∙ c.loop-at.invariant.1)

pub returns : goal.returns
returns c = let a = c.args in let g = c.loop-at in fills (sym (fill_none g.block g.count g.at) ∙ ap (fill_from g.block g.count g.at) (sym (lines_end a.text.now g.at c.loop-at-test.false)) ∙ g.invariant.1)
