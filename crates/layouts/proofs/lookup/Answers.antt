use mathlib.Core.Path.{sym, ap, ◌∙◌}
use Prim.Native.Nat.{◌<◌, ◌^◌}
use native.Mathlib.Nat.{one-mul}
use lib.Pow.{shl_exact}
use Rattle.layouts.specs.declared.Checked.{Checked}
use Rattle.layouts.specs.Layouts.{says, selector_at, match_word}
use Rattle.layouts.proofs.Rows.{table-ranged, selector-below}
use Rattle.layouts.proofs.Answers.{lookup-range, lookup-refused, lookup-found, accepted}
use native.Mathlib.Omega.{arith}
use Rattle.layouts.proofs.lookup.Goals as goal

pub returns-then-layout-gt-LAST_LAYOUT : goal.returns-then-layout-gt-LAST_LAYOUT
returns-then-layout-gt-LAST_LAYOUT c = let a = c.args in sym (lookup-range a.table.now a.layout c.if-layout-gt-LAST_LAYOUT.true)

pub returns-then-found-ne0 : goal.returns-then-found-ne0
returns-then-found-ne0 c =
    let k = c.check-found in
    let a = c.args in
    k.ensures ∙ sym (lookup-refused a.table.now a.layout c.if-layout-gt-LAST_LAYOUT.false (λ z. c.if-found-ne0.true (ap (λ (r : Checked). r.refusal) k.ensures ∙ z)))

pub overflow_shl-result : goal.overflow_shl-result
overflow_shl-result c =
    let k = c.check-found in
    let a = c.args in
    let t = a.table.now in
    let z = sym (ap (λ (r : Checked). r.refusal) k.ensures) ∙ c.if-found-ne0.false in
    let b : selector_at t a.layout < 64 = selector-below t a.layout (table-ranged t (accepted t z).range) in
    omega (arith, c.selector_at-selector.ensures)

pub returns : goal.returns
returns c =
    let k = c.check-found in
    let a = c.args in
    let t = a.table.now in
    let z = sym (ap (λ (r : Checked). r.refusal) k.ensures) ∙ c.if-found-ne0.false in
    let s = c.selector_at-selector.result in
    let b : selector_at t a.layout < 64 = selector-below t a.layout (table-ranged t (accepted t z).range) in
    ap (says 0) (shl_exact {a = 1} 1 s 64 (omega arith) (omega (arith, c.selector_at-selector.ensures)) ∙ one-mul (2 ^ s) ∙ ap match_word c.selector_at-selector.ensures)
    ∙ sym (lookup-found t a.layout c.if-layout-gt-LAST_LAYOUT.false z)
