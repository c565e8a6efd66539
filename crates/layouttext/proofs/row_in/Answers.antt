use Prim.Native.Nat.{◌+◌}
use mathlib.Core.Path.{refl, ap, sym, ◌∙◌}
use lib.ListN.{drop, set, replicate, length-set}
use Rattle.textwords.specs.declared.Stop.TheVariants.{Blank}
use Rattle.textwords.specs.Text.{run}
use Rattle.textwords.proofs.Words.{to_word, at-word, word-within, passed, no_words}
use Rattle.layouttext.specs.Rows.{gather_row}
use Rattle.layouttext.proofs.Lines.{too_many, no_number, one_number}
use native.Mathlib.Omega.{arith}
use borrow.Author.Rules.{rules}
use Rattle.layouttext.proofs.row_in.Goals as goal

pub loop-i-init : goal.loop-i-init
loop-i-init c =
    let s = c.scan-i.ensures in
    let t = c.args.text.now in
    (word-within t 0 c.scan-i.result (omega arith) s, at-word t 0 c.scan-i.result (omega arith) s, omega arith, search rules, ap (gather_row 0 (replicate 3 0)) (sym (to_word t 0 c.scan-i.result (omega arith) s)))

pub returns-then-n-eq3 : goal.returns-then-n-eq3
returns-then-n-eq3 c =
    let t = c.args.text.now in
    let v = c.loop-i.invariant in
    let p = passed t c.loop-i.i (c.loop-i.i + run Blank (drop c.loop-i.i t)) (omega arith) v.1 refl in
    sym (too_many c.loop-i.n c.loop-i.row _ _ c.if-n-eq3.true) ∙ ap (gather_row c.loop-i.n c.loop-i.row) (sym p.words) ∙ v.4

pub slice_bounds-number_of-count : goal.slice_bounds-number_of-count
slice_bounds-number_of-count c =
    let t = c.args.text.now in
    let v = c.loop-i.invariant in
    let p = passed t c.loop-i.i c.scan-e.result (omega arith) v.1 c.scan-e.ensures in
    omega (arith, p.more)

pub slice_bounds-number_of-start : goal.slice_bounds-number_of-start
slice_bounds-number_of-start c =
    let t = c.args.text.now in
    let v = c.loop-i.invariant in
    let p = passed t c.loop-i.i c.scan-e.result (omega arith) v.1 c.scan-e.ensures in
    omega (arith, p.more)

pub slice_bounds-number_of-end : goal.slice_bounds-number_of-end
slice_bounds-number_of-end c =
    let t = c.args.text.now in
    let v = c.loop-i.invariant in
    let p = passed t c.loop-i.i c.scan-e.result (omega arith) v.1 c.scan-e.ensures in
    omega (arith, p.within)

pub returns-in_default : goal.returns-in_default
returns-in_default c =
    let t = c.args.text.now in
    let v = c.loop-i.invariant in
    let p = passed t c.loop-i.i c.scan-e.result (omega arith) v.1 c.scan-e.ensures in
    sym (no_number c.loop-i.n c.loop-i.row _ _ c.if-n-eq3.false (sym c.number_of.ensures ∙ c.in_default.is)) ∙ ap (gather_row c.loop-i.n c.loop-i.row) (sym p.words) ∙ v.4

pub loop-i-smaller : goal.loop-i-smaller
loop-i-smaller c =
    let t = c.args.text.now in
    let v = c.loop-i.invariant in
    let p = passed t c.loop-i.i c.scan-e.result (omega arith) v.1 c.scan-e.ensures in
    omega (arith, p.more, word-within t c.scan-e.result c.scan-i-in-loop-i.result p.within c.scan-i-in-loop-i.ensures, c.scan-i-in-loop-i.ensures)

pub loop-i-preserved : goal.loop-i-preserved
loop-i-preserved c =
    let t = c.args.text.now in
    let v = c.loop-i.invariant in
    let p = passed t c.loop-i.i c.scan-e.result (omega arith) v.1 c.scan-e.ensures in
    let s = c.scan-i-in-loop-i.ensures in
    let e = c.scan-e.result in
    (word-within t e c.scan-i-in-loop-i.result p.within s, at-word t e c.scan-i-in-loop-i.result p.within s, omega arith, length-set c.loop-i.row c.loop-i.n c.in-Some.v ∙ v.3, ap (gather_row (c.loop-i.n + 1) (set c.loop-i.row c.loop-i.n c.in-Some.v)) (sym (to_word t e c.scan-i-in-loop-i.result p.within s)) ∙ sym (one_number c.loop-i.n c.loop-i.row _ _ c.if-n-eq3.false c.in-Some.v (sym c.number_of.ensures ∙ c.in-Some.is)) ∙ ap (gather_row c.loop-i.n c.loop-i.row) (sym p.words) ∙ v.4)

pub returns : goal.returns
returns c =
    let t = c.args.text.now in
    c.end_of_words.ensures ∙ ap (gather_row c.loop-i.n c.loop-i.row) (sym (no_words t c.loop-i.i (omega arith))) ∙ c.loop-i.invariant.4
