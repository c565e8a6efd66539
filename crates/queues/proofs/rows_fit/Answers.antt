use mathlib.Core.Path.{◌≡◌, ap, ◌∙◌}
use Prim.Native.Nat.{ℕ, ◌+◌, ◌≤◌}
use native.Mathlib.Omega.{arith}
use borrow.Author.Tests.{le-leb, lt-leb, ne_eqb}
use lib.Dec.{eqb}
use lib.ListN.{take}
use Rattle.definition.specs.Layout.{sub_rows}
use Rattle.queues.proofs.Guard.{eqb-capped}
use Rattle.queues.proofs.rows_fit.Goals as goal

pub returns-then-d-gt-ROWS : goal.returns-then-d-gt-ROWS
returns-then-d-gt-ROWS c =
    rw (lt-leb _ _ c.if-d-gt-ROWS.true)

pub returns-then-d-gt-ROWS-2 : goal.returns-then-d-gt-ROWS-2
returns-then-d-gt-ROWS-2 c =
    let a = c.args in
    let used : ℕ = a.d.used in
    let sum : ℕ = sub_rows (take a.d.consumers a.subs.now) + (a.d.reserved + a.d.waiting) in
    let few : used ≤ 512 = c.if-d-gt-ROWS.false in
    let n : sum ≡ used → ⊥ = λ e. omega (arith, c.if-d-gt-ROWS-2.true) in
    rw (le-leb used 512 few, ne_eqb sum used n)

pub returns-then-d-gt-ROWS-3 : goal.returns-then-d-gt-ROWS-3
returns-then-d-gt-ROWS-3 c =
    let a = c.args in
    let used : ℕ = a.d.used in
    let sum : ℕ = sub_rows (take a.d.consumers a.subs.now) + (a.d.reserved + a.d.waiting) in
    let few : used ≤ 512 = c.if-d-gt-ROWS.false in
    let n : sum ≡ used → ⊥ = λ e. omega (arith, c.if-d-gt-ROWS-3.true) in
    rw (le-leb used 512 few, ne_eqb sum used n)

pub returns : goal.returns
returns c =
    let a = c.args in
    let used : ℕ = a.d.used in
    let sum : ℕ = sub_rows (take a.d.consumers a.subs.now) + (a.d.reserved + a.d.waiting) in
    let few : used ≤ 512 = c.if-d-gt-ROWS.false in
    let others : ℕ = a.d.reserved + a.d.waiting in
    ap (λ (n : ℕ). eqb (n + others) used) c.base_of-base.ensures
    ∙ eqb-capped (sub_rows (take a.d.consumers a.subs.now)) others used few
    ∙ rw (le-leb used 512 few)
