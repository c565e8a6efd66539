use mathlib.Core.Path.{ap, sym, ◌∙◌}
use Rattle.layouts.specs.declared.Checked.{Checked}
use Rattle.layouts.specs.Layouts.{cover_count}
use Rattle.layouts.proofs.Theorems.{overlap-is-lowest}
use Rattle.layouttext.specs.Messages.{verdict_text}
use Rattle.layouttext.proofs.Saying.{found-gap, found-overlap, found-accepted}
use native.Mathlib.Omega.{arith}
use Rattle.layouttext.proofs.put_found.Goals as goal

pub returns-then-refusal-eq-GAP : goal.returns-then-refusal-eq-GAP
returns-then-refusal-eq-GAP c =
    let a = c.args in
    let p = c.put_gap.ensures in
    (rw (found-gap a.rows.now a.lines.now c.check-c.ensures c.if-refusal-eq-GAP.true) at p.0, p.1)

pub put_overlap-requires : goal.put_overlap-requires
put_overlap-requires c =
    let k = c.check-c in
    let w = (overlap-is-lowest c.args.rows.now (ap (λ (r : Checked). r.refusal) (sym k.ensures) ∙ c.if-refusal-eq-OVERLAP.true)).two in
    let u = ap (λ (r : Checked). cover_count c.args.rows.now r.answer) k.ensures in
    (c.requires.0, omega (arith, w, u), c.requires.1)

pub returns-then-refusal-eq-OVERLAP : goal.returns-then-refusal-eq-OVERLAP
returns-then-refusal-eq-OVERLAP c =
    let a = c.args in
    let p = c.put_overlap.ensures in
    (rw (ap verdict_text (found-overlap a.rows.now a.lines.now c.check-c.ensures c.if-refusal-eq-OVERLAP.true)) at p.0, p.1)

pub returns : goal.returns
returns c =
    let a = c.args in
    let p = c.put_accepted.ensures in
    (rw (found-accepted a.rows.now a.lines.now c.check-c.ensures c.if-refusal-eq-GAP.false c.if-refusal-eq-OVERLAP.false) at p.0, p.1)
