use Prim.Native.Nat.{◌+◌}
use mathlib.Core.Path.{refl, ap, sym, ◌∙◌}
use Rattle.std.specs.Prelude.{Some, Ok}
use Rattle.calls.specs.declared.Call.{Call}
use lib.ListN.{drop, set, length-set}
use Rattle.textwords.specs.declared.Stop.TheVariants.{Blank}
use Rattle.textwords.specs.Text.{run}
use Rattle.textwords.proofs.Words.{to_word, at-word, word-within, passed, no_words}
use Rattle.calltext.specs.Lines.{gather_call}
use Rattle.calltext.proofs.Gathering.{gathered, too_many, no_number, one_number}
use native.Mathlib.Omega.{arith}
use borrow.Author.Rules.{rules}
use Rattle.calltext.proofs.gather_from.Goals as goal

pub loop-i-init : goal.loop-i-init
loop-i-init c = let s = c.scan-i.ensures in let a = c.args in (word-within a.text.now a.from c.scan-i.result (omega arith) s, at-word a.text.now a.from c.scan-i.result (omega arith) s, omega arith, search rules, ap (gather_call a.first a.start) (sym (to_word a.text.now a.from c.scan-i.result (omega arith) s)))

pub returns-then-n-eq9 : goal.returns-then-n-eq9
returns-then-n-eq9 c = let a = c.args in let v = c.loop-i.invariant in let p = passed a.text.now c.loop-i.i (c.loop-i.i + run Blank (drop c.loop-i.i a.text.now)) (omega arith) v.1 refl in sym (too_many c.loop-i.n c.loop-i.nine _ _ c.if-n-eq9.true) ∙ ap (gather_call c.loop-i.n c.loop-i.nine) (sym p.words) ∙ v.4

pub slice_bounds-number_of-count : goal.slice_bounds-number_of-count
slice_bounds-number_of-count c = let a = c.args in let v = c.loop-i.invariant in let p = passed a.text.now c.loop-i.i c.scan-e.result (omega arith) v.1 c.scan-e.ensures in omega (arith, p.more)

pub slice_bounds-number_of-start : goal.slice_bounds-number_of-start
slice_bounds-number_of-start c = let a = c.args in let v = c.loop-i.invariant in let p = passed a.text.now c.loop-i.i c.scan-e.result (omega arith) v.1 c.scan-e.ensures in omega (arith, p.more)

pub slice_bounds-number_of-end : goal.slice_bounds-number_of-end
slice_bounds-number_of-end c = let a = c.args in let v = c.loop-i.invariant in let p = passed a.text.now c.loop-i.i c.scan-e.result (omega arith) v.1 c.scan-e.ensures in omega (arith, p.within)

pub returns-in_default : goal.returns-in_default
returns-in_default c = let a = c.args in let v = c.loop-i.invariant in let p = passed a.text.now c.loop-i.i c.scan-e.result (omega arith) v.1 c.scan-e.ensures in sym (no_number c.loop-i.n c.loop-i.nine _ _ c.if-n-eq9.false (sym c.number_of.ensures ∙ c.in_default.is)) ∙ ap (gather_call c.loop-i.n c.loop-i.nine) (sym p.words) ∙ v.4

pub loop-i-smaller : goal.loop-i-smaller
loop-i-smaller c = let a = c.args in let v = c.loop-i.invariant in let p = passed a.text.now c.loop-i.i c.scan-e.result (omega arith) v.1 c.scan-e.ensures in omega (arith, p.more, word-within a.text.now c.scan-e.result c.scan-i-in-loop-i.result p.within c.scan-i-in-loop-i.ensures, c.scan-i-in-loop-i.ensures)

pub loop-i-preserved : goal.loop-i-preserved
loop-i-preserved c = let a = c.args in let v = c.loop-i.invariant in let p = passed a.text.now c.loop-i.i c.scan-e.result (omega arith) v.1 c.scan-e.ensures in let s = c.scan-i-in-loop-i.ensures in let q = p.within in let t = a.text.now in let e = c.scan-e.result in (word-within t e c.scan-i-in-loop-i.result q s, at-word t e c.scan-i-in-loop-i.result q s, omega arith, length-set c.loop-i.nine c.loop-i.n c.in-Some.v ∙ v.3, ap (gather_call (c.loop-i.n + 1) (set c.loop-i.nine c.loop-i.n c.in-Some.v)) (sym (to_word t e c.scan-i-in-loop-i.result q s)) ∙ sym (one_number c.loop-i.n c.loop-i.nine _ _ c.if-n-eq9.false c.in-Some.v (sym c.number_of.ensures ∙ c.in-Some.is)) ∙ ap (gather_call c.loop-i.n c.loop-i.nine) (sym p.words) ∙ v.4)

pub returns : goal.returns
returns c = let a = c.args in let v = c.loop-i.invariant in ap (λ (d : Call). Ok (Some d)) c.call_of.ensures ∙ sym (gathered c.loop-i.n c.loop-i.nine) ∙ ap (gather_call c.loop-i.n c.loop-i.nine) (sym (no_words a.text.now c.loop-i.i (omega arith))) ∙ v.4
