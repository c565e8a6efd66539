use Prim.Native.Nat.{◌+◌}
use mathlib.Core.Path.{refl, ap, sym, ◌∙◌}
use mathlib.Core.Bool.{not}
use Rattle.textwords.proofs.Words.{to_word, at-word, word-within, passed, no_words}
use Rattle.calltext.specs.Faults.{is_number, fault_among}
use Rattle.calltext.proofs.Faulting.{number-some, among_none, among-many, among-here, among_later, stands, stands-not, also}
use native.Mathlib.Omega.{arith}
use Rattle.calltext.proofs.fault_from.Goals as goal

pub loop-i-init : goal.loop-i-init
loop-i-init c =
    let s = c.scan-i.ensures in
    let a = c.args in
    (word-within a.text.now a.from c.scan-i.result (omega arith) s, at-word a.text.now a.from c.scan-i.result (omega arith) s, omega arith, ap (fault_among a.first) (sym (to_word a.text.now a.from c.scan-i.result (omega arith) s)))

pub returns-then-n-gt8 : goal.returns-then-n-gt8
returns-then-n-gt8 c =
    let a = c.args in
    let v = c.loop-i.invariant in
    let e = c.scan-e in
    let p = passed a.text.now c.loop-i.i e.result (omega arith) v.1 e.ensures in
    also (stands c.loop-i.i e.result (omega (arith, p.more)) p.within refl) (sym (among-many c.loop-i.n _ _ c.if-n-gt8.true) ∙ ap (fault_among c.loop-i.n) (sym p.words) ∙ v.3)

pub slice_bounds-number_of-count : goal.slice_bounds-number_of-count
slice_bounds-number_of-count c =
    let a = c.args in
    let v = c.loop-i.invariant in
    let e = c.scan-e in
    let p = passed a.text.now c.loop-i.i e.result (omega arith) v.1 e.ensures in
    omega (arith, p.more)

pub slice_bounds-number_of-start : goal.slice_bounds-number_of-start
slice_bounds-number_of-start c =
    let a = c.args in
    let v = c.loop-i.invariant in
    let e = c.scan-e in
    let p = passed a.text.now c.loop-i.i e.result (omega arith) v.1 e.ensures in
    omega (arith, p.more)

pub slice_bounds-number_of-end : goal.slice_bounds-number_of-end
slice_bounds-number_of-end c =
    let a = c.args in
    let v = c.loop-i.invariant in
    let e = c.scan-e in
    let p = passed a.text.now c.loop-i.i e.result (omega arith) v.1 e.ensures in
    omega (arith, p.within)

pub returns-then-is_none : goal.returns-then-is_none
returns-then-is_none c =
    let a = c.args in
    let v = c.loop-i.invariant in
    let e = c.scan-e in
    let p = passed a.text.now c.loop-i.i e.result (omega arith) v.1 e.ensures in
    let no = sym (ap is_number c.number_of.ensures) ∙ sym (number-some _) ∙ c.is_none.ensures ∙ ap not c.if-is_none.true in
    also (stands c.loop-i.i e.result (omega (arith, p.more)) p.within refl) (sym (among-here c.loop-i.n _ _ (omega arith) no) ∙ ap (fault_among c.loop-i.n) (sym p.words) ∙ v.3)

pub loop-i-smaller : goal.loop-i-smaller
loop-i-smaller c =
    let a = c.args in
    let v = c.loop-i.invariant in
    let e = c.scan-e in
    let p = passed a.text.now c.loop-i.i e.result (omega arith) v.1 e.ensures in
    omega (arith, p.more, word-within a.text.now e.result c.scan-i-in-loop-i.result p.within c.scan-i-in-loop-i.ensures, c.scan-i-in-loop-i.ensures)

pub loop-i-preserved : goal.loop-i-preserved
loop-i-preserved c =
    let a = c.args in
    let v = c.loop-i.invariant in
    let e = c.scan-e in
    let p = passed a.text.now c.loop-i.i e.result (omega arith) v.1 e.ensures in
    let s = c.scan-i-in-loop-i.ensures in
    let t = a.text.now in
    let q = p.within in
    let yes = sym (ap is_number c.number_of.ensures) ∙ sym (number-some _) ∙ c.is_none.ensures ∙ ap not c.if-is_none.false in
    (word-within t e.result c.scan-i-in-loop-i.result q s, at-word t e.result c.scan-i-in-loop-i.result q s, omega arith, ap (fault_among (c.loop-i.n + 1)) (sym (to_word t e.result c.scan-i-in-loop-i.result q s)) ∙ sym (among_later c.loop-i.n _ _ (omega arith) yes) ∙ ap (fault_among c.loop-i.n) (sym p.words) ∙ v.3)

pub returns : goal.returns
returns c =
    let a = c.args in
    let v = c.loop-i.invariant in
    also (stands-not a.text.now c.loop-i.i v.0) (sym (among_none c.loop-i.n) ∙ ap (fault_among c.loop-i.n) (sym (no_words a.text.now c.loop-i.i c.loop-i-test.false)) ∙ v.3)
