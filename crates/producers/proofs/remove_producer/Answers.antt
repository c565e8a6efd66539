use mathlib.Core.Path.{◌≡◌, refl, sym, ap, ap₂, ◌∙◌}
use mathlib.Core.Bool.{true}
use mathlib.Core.List.{List}
use Prim.Native.Nat.{ℕ}
use borrow.Author.Tests.{not-true, not-false}
use lib.ListN.{length, drop}
use Rattle.definition.specs.Calls.{removing}
use Rattle.state.specs.State.{with_producer_count, with_audit_count, touched, refused_as, done_as}
use Rattle.producers.specs.Groups.{stays, kept_count, packed}
use Rattle.producers.specs.Producers.{head_fits, producer_removed}
use Rattle.producers.proofs.Tables.{counts}
use Rattle.producers.proofs.Promises.{carried}
use Rattle.producers.proofs.Removing.{removed-unfit, removed-done}
use native.Mathlib.Omega.{arith}
use borrow.Author.Rules.{rules}
use Rattle.producers.proofs.remove_producer.Goals as goal
use Rattle.producers.proofs.remove_producer.Goals.{Else-not-fits}

fit : (c : Else-not-fits) → let a = c.args in head_fits (length a.head.now) a.d ≡ true
fit c = sym c.fits.ensures ∙ not-false _ c.if-not-fits.false-raw

pub returns-then-not-fits : goal.returns-then-not-fits
returns-then-not-fits c =
    let a = c.args in
    let h : List ℕ = a.head.now in
    carried (removing a.id a.clock) a.d h (producer_removed a.clock a.id a.d h) _ (refused_as 2 a.d) h h refl refl
    (removed-unfit a.clock a.id a.d h (sym c.fits.ensures ∙ not-true _ c.if-not-fits.true-raw))

pub pack-requires : goal.pack-requires
pack-requires c =
    let a = c.args in
    let n = counts (length a.head.now) a.d (fit (goal.at.pack-requires c).Else-not-fits) in
    (search rules, omega arith)

pub pack-requires-2 : goal.pack-requires-2
pack-requires-2 c =
    let a = c.args in
    let n = counts (length a.head.now) a.d (fit (goal.at.pack-requires-2 c).Else-not-fits) in
    (search rules, omega (arith, c.pack.auto))

pub returns : goal.returns
returns c =
    let a = c.args in
    let h : List ℕ = a.head.now in
    let gone = stays true a.id in
    let producers : ℕ = kept_count gone 3 a.d.producers (drop 17 h) in
    let k₁ : List ℕ = packed gone 17 3 a.d.producers h in
    let audits : ℕ = kept_count gone 1029 a.d.audits (drop 113 k₁) in
    carried (removing a.id a.clock) a.d h (producer_removed a.clock a.id a.d h) _ (done_as 0 (touched a.clock (with_audit_count audits (with_producer_count producers a.d)))) _ (packed gone 113 1029 a.d.audits k₁)
    (ap (done_as 0) c.touch_idle.ensures
    ∙ ap₂ (λ (x y : ℕ). done_as 0 (touched a.clock (with_audit_count y (with_producer_count x a.d)))) c.pack.ensures.0 (c.pack-2.ensures.0 ∙ ap (λ (x : List ℕ). kept_count gone 1029 a.d.audits (drop 113 x)) c.pack.ensures.1))
    (c.pack-2.ensures.1 ∙ ap (packed gone 113 1029 a.d.audits) c.pack.ensures.1)
    (removed-done a.clock a.id a.d h (fit (goal.at.returns c).Else-not-fits))
