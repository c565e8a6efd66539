use mathlib.Core.Path.{◌≡◌, refl, sym, ◌∙◌}
use mathlib.Core.Bool.{true, and-true}
use Prim.Native.Nat.{ℕ, ◌+◌, ◌≤◌}
use native.Mathlib.Omega.{arith}
use borrow.Author.Tests.{not-true, not-false, eq-eqb, ne_eqb}
use lib.ListN.{length, take}
use Rattle.definition.specs.Layout.{sub_rows}
use Rattle.state.specs.Fits.{tables_fit, numbers_fit, counters_fit}
use Rattle.state.proofs.Fitting.{fits_by, used-few}
use Rattle.state.proofs.fits.Goals as goal
use Rattle.state.proofs.fits.Goals.{Else-not-counters_fit, Else-not-numbers_fit, Else-not-tables_fit}

tables : (c : Else-not-tables_fit) → let a = c.args in tables_fit (length a.subs.now) a.rows a.events ≡ true
tables c = sym c.tables_fit.ensures ∙ not-false _ c.if-not-tables_fit.false-raw

numbers : (c : Else-not-numbers_fit) → numbers_fit c.args.d ≡ true
numbers c = sym c.numbers_fit.ensures ∙ not-false _ c.if-not-numbers_fit.false-raw

counters : (c : Else-not-counters_fit) → counters_fit c.args.d.stats ≡ true
counters c = sym c.counters_fit.ensures ∙ not-false _ c.if-not-counters_fit.false-raw

pub returns-then-not-tables_fit : goal.returns-then-not-tables_fit
returns-then-not-tables_fit c =
    let a = c.args in
    sym (fits_by a.subs.now a.d a.rows a.events (sym c.tables_fit.ensures ∙ not-true _ c.if-not-tables_fit.true-raw) refl refl refl)

pub returns-then-not-numbers_fit : goal.returns-then-not-numbers_fit
returns-then-not-numbers_fit c =
    let a = c.args in
    sym (fits_by a.subs.now a.d a.rows a.events (tables (goal.at.returns-then-not-numbers_fit c).Else-not-tables_fit) (sym c.numbers_fit.ensures ∙ not-true _ c.if-not-numbers_fit.true-raw) refl refl)

pub returns-then-not-counters_fit : goal.returns-then-not-counters_fit
returns-then-not-counters_fit c =
    let a = c.args in
    sym (fits_by a.subs.now a.d a.rows a.events (tables (goal.at.returns-then-not-counters_fit c).Else-not-tables_fit) (numbers (goal.at.returns-then-not-counters_fit c).Else-not-numbers_fit) (sym c.counters_fit.ensures ∙ not-true _ c.if-not-counters_fit.true-raw) refl)

pub returns-then-used_of-d : goal.returns-then-used_of-d
returns-then-used_of-d c =
    let a = c.args in
    let s : ℕ = sub_rows (take a.d.consumers a.subs.now) in
    let few : a.d.used ≤ 512 = used-few a.subs.now a.d a.rows a.events (numbers (goal.at.returns-then-used_of-d c).Else-not-numbers_fit) in
    let n : s + (a.d.reserved + a.d.waiting) ≡ a.d.used → ⊥ = λ e. c.if-used_of-d.true (omega (arith, c.used_of.ensures, c.base_of-base.ensures)) in
    sym (fits_by a.subs.now a.d a.rows a.events (tables (goal.at.returns-then-used_of-d c).Else-not-tables_fit) (numbers (goal.at.returns-then-used_of-d c).Else-not-numbers_fit) (counters (goal.at.returns-then-used_of-d c).Else-not-counters_fit) (ne_eqb _ _ n))

pub returns : goal.returns
returns c =
    let a = c.args in
    let s : ℕ = sub_rows (take a.d.consumers a.subs.now) in
    let few : a.d.used ≤ 512 = used-few a.subs.now a.d a.rows a.events (numbers (goal.at.returns c).Else-not-numbers_fit) in
    let n : s + (a.d.reserved + a.d.waiting) ≡ a.d.used = omega (arith, c.if-used_of-d.false, c.used_of.ensures, c.base_of-base.ensures) in
    c.fit.ensures ∙ sym (fits_by a.subs.now a.d a.rows a.events (tables (goal.at.returns c).Else-not-tables_fit) (numbers (goal.at.returns c).Else-not-numbers_fit) (counters (goal.at.returns c).Else-not-counters_fit) (eq-eqb _ _ n) ∙ and-true _)
