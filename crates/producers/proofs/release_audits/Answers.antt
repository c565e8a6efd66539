use mathlib.Core.Path.{◌≡◌, refl, sym, ap, ◌∙◌}
use mathlib.Core.Bool.{true, false}
use mathlib.Core.List.{List}
use Prim.Native.Nat.{ℕ}
use borrow.Author.Tests.{not-true, not-false}
use lib.ListN.{length, drop}
use Rattle.model.specs.declared.Id.{Id}
use Rattle.model.specs.Model.{id_of}
use Rattle.definition.specs.Calls.{forgetting}
use Rattle.state.specs.State.{with_audit_count, refused_as, done_as}
use Rattle.producers.specs.Groups.{stays, kept_count, packed}
use Rattle.producers.specs.Producers.{head_fits, released}
use Rattle.producers.proofs.Tables.{counts}
use Rattle.producers.proofs.Promises.{carried}
use Rattle.producers.proofs.Removing.{released-unfit, released-done}
use native.Mathlib.Omega.{arith}
use borrow.Author.Rules.{rules}
use Rattle.producers.proofs.release_audits.Goals as goal
use Rattle.producers.proofs.release_audits.Goals.{Else-not-fits}

fit : (c : Else-not-fits) → let a = c.args in head_fits (length a.head.now) a.d ≡ true
fit c = sym c.fits.ensures ∙ not-false _ c.if-not-fits.false-raw

pub returns-then-not-fits : goal.returns-then-not-fits
returns-then-not-fits c =
    let a = c.args in
    let h : List ℕ = a.head.now in
    carried (forgetting a.conn) a.d h (released a.conn a.d h) _ (refused_as 2 a.d) h h refl refl
    (released-unfit a.conn a.d h (sym c.fits.ensures ∙ not-true _ c.if-not-fits.true-raw))

pub pack-requires : goal.pack-requires
pack-requires c =
    let a = c.args in
    let n = counts (length a.head.now) a.d (fit (goal.at.pack-requires c).Else-not-fits) in
    (search rules, omega arith)

pub returns : goal.returns
returns c =
    let a = c.args in
    let h : List ℕ = a.head.now in
    let same = c.new-of.ensures in
    let stay = stays false (id_of a.conn 0 0) in
    let audits : ℕ = kept_count stay 1029 a.d.audits (drop 113 h) in
    carried (forgetting a.conn) a.d h (released a.conn a.d h) _ (done_as 0 (with_audit_count audits a.d)) _ (packed stay 113 1029 a.d.audits h)
    (ap (λ (x : ℕ). done_as 0 (with_audit_count x a.d)) (c.pack.ensures.0 ∙ ap (λ (i : Id). kept_count (stays false i) 1029 a.d.audits (drop 113 h)) same))
    (c.pack.ensures.1 ∙ ap (λ (i : Id). packed (stays false i) 113 1029 a.d.audits h) same)
    (released-done a.conn a.d h (fit (goal.at.returns c).Else-not-fits))
