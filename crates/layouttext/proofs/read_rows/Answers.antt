use mathlib.Core.Path.{refl, sym, ◌∙◌}
use Rattle.texting.proofs.Taking.{taken}
use Rattle.layouttext.proofs.Lines.{row-taken, state-start, state-none, state-fault, state-passed, kept-lengths, kept-few, reads}
use native.Mathlib.Omega.{arith}
use Rattle.layouttext.proofs.read_rows.Goals as goal

pub loop-at-init : goal.loop-at-init
loop-at-init c = let a = c.args in (refl, refl, omega arith, state-start a.rows.now a.lines.now a.text.now)

pub slice_bounds-parse-count : goal.slice_bounds-parse-count
slice_bounds-parse-count c =
    let t = c.args.text.now in
    let w = taken t c.loop-at.at c.scan-e.result c.loop-at-test.true c.scan-e.ensures in
    omega (arith, w.more)

pub slice_bounds-parse-start : goal.slice_bounds-parse-start
slice_bounds-parse-start c =
    let t = c.args.text.now in
    let w = taken t c.loop-at.at c.scan-e.result c.loop-at-test.true c.scan-e.ensures in
    omega (arith, w.more)

pub slice_bounds-parse-end : goal.slice_bounds-parse-end
slice_bounds-parse-end c =
    let t = c.args.text.now in
    let w = taken t c.loop-at.at c.scan-e.result c.loop-at-test.true c.scan-e.ensures in
    omega (arith, w.within)

pub returns-in-Err : goal.returns-in-Err
returns-in-Err c =
    let t = c.args.text.now in
    let w = taken t c.loop-at.at c.scan-e.result c.loop-at-test.true c.scan-e.ensures in
    let g = c.loop-at in
    let v = g.invariant in
    let b = c.requires in
    reads v.2 (sym (state-fault g.rows g.lines g.count g.n g.at t v.2 (omega arith) (omega arith) w c.parse.ensures c.in-Err.fault (sym c.in-Err.is ∙ c.line_kind-p.ensures)) ∙ v.3)

pub keep-count-requires : goal.keep-count-requires
keep-count-requires c =
    let v = c.loop-at.invariant in
    (λ row z. (row-taken c.loop-at.count c.parse.result (sym c.line_kind-p.ensures ∙ z)).0, omega arith, omega arith)

pub overflow_add-at : goal.overflow_add-at
overflow_add-at c =
    let t = c.args.text.now in
    let w = taken t c.loop-at.at c.scan-e.result c.loop-at-test.true c.scan-e.ensures in
    omega (arith, w.within)

pub loop-at-smaller : goal.loop-at-smaller
loop-at-smaller c =
    let t = c.args.text.now in
    let w = taken t c.loop-at.at c.scan-e.result c.loop-at-test.true c.scan-e.ensures in
    omega (arith, w.more)

pub loop-at-preserved : goal.loop-at-preserved
loop-at-preserved c =
    let t = c.args.text.now in
    let w = taken t c.loop-at.at c.scan-e.result c.loop-at-test.true c.scan-e.ensures in
    let g = c.loop-at in
    let v = g.invariant in
    let k = c.keep-count.ensures in
    let p = c.line_kind-p.result in
    let x = kept-lengths p k in
    let q = c.line_kind-p.ensures in
    (x.0 ∙ v.0, x.1 ∙ v.1, kept-few p k v.2 (λ row z. (row-taken g.count c.parse.result (sym q ∙ z)).0), state-passed g.rows g.lines g.count g.n g.at t v.2 (omega arith) (omega arith) w c.more_of-n.ensures c.parse.ensures c.in_default.field-0 (sym c.in_default.is ∙ q) (rw c.in_default.is at k) ∙ v.3)

pub returns : goal.returns
returns c =
    let a = c.args in
    let g = c.loop-at in
    reads g.invariant.2 (sym (state-none g.rows g.lines g.count g.n g.at a.text.now c.loop-at-test.false) ∙ g.invariant.3)
