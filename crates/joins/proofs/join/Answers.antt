use mathlib.Core.Path.{sym, ap, ◌∙◌, subst⁻¹}
use Prim.Native.Nat.{ℕ, ◌+◌, ◌≤◌}
use native.Mathlib.Omega.{arith}
use borrow.Author.Tests.{not-true, not-false}
use lib.ListN.{length}
use Rattle.state.proofs.Fitting.{fits-facts}
use Rattle.state.proofs.Leaves.{unless-touched}
use Rattle.state.proofs.Answers.{untouched}
use Rattle.joins.specs.Joins.{snapshot_of, joined_head, joined_rows, Browses}
use Rattle.joins.proofs.Outcomes.{joins-late, joins-unfit, joins-refused, joins-topic, joins-full, less, join-browses, join-done}
use Rattle.joins.proofs.Refusals.{refused-number, accepted-number}
use Rattle.joins.proofs.join.Goals as goal

pub returns-then-clock-gt-CLOCK_MOST : goal.returns-then-clock-gt-CLOCK_MOST
returns-then-clock-gt-CLOCK_MOST c =
    let a = c.args in
    unless-touched _ _ _ a.d a.d a.subs.now a.rows.now a.events.now a.subs.now a.rows.now a.events.now (joins-late a.clock a.spec a.subs.now a.d a.rows.now a.events.now c.if-clock-gt-CLOCK_MOST.true) (untouched a.d a.subs.now a.rows.now a.events.now)

pub returns-then-not-fits : goal.returns-then-not-fits
returns-then-not-fits c =
    let a = c.args in
    unless-touched _ _ _ a.d a.d a.subs.now a.rows.now a.events.now a.subs.now a.rows.now a.events.now (joins-unfit a.clock a.spec a.subs.now a.d a.rows.now a.events.now c.if-clock-gt-CLOCK_MOST.false (sym c.fits.ensures ∙ not-true _ c.if-not-fits.true-raw)) (untouched a.d a.subs.now a.rows.now a.events.now)

pub snapshot_rows-k-requires : goal.snapshot_rows-k-requires
snapshot_rows-k-requires c =
    let a = c.args in
    let f = fits-facts a.subs.now a.d (length a.rows.now) (length a.events.now) (sym c.fits.ensures ∙ not-false _ c.if-not-fits.false-raw) in
    let u = f.rows-used in
    (omega arith, omega arith, omega (arith, c.if-clock-gt-CLOCK_MOST.false, c.due-by.ensures))

pub returns-then-is_err : goal.returns-then-is_err
returns-then-is_err c =
    let a = c.args in
    let t = sym c.fits.ensures ∙ not-false _ c.if-not-fits.false-raw in
    let late = c.if-clock-gt-CLOCK_MOST.false in
    unless-touched _ _ _ a.d a.d a.subs.now a.rows.now a.events.now a.subs.now a.rows.now a.events.now (joins-refused a.clock a.spec a.subs.now a.d a.rows.now a.events.now late t _ (c.snapshot_rows-k.ensures ∙ ap (λ (n : ℕ). snapshot_of n a.spec a.d a.rows.now) c.due-by.ensures) (λ z. refused-number c.refusal_of.result (sym c.is_err.ensures.value ∙ c.if-is_err.true) (c.refusal_of.ensures ∙ z))) (untouched a.d a.subs.now a.rows.now a.events.now)

pub returns-then-not-d : goal.returns-then-not-d
returns-then-not-d c =
    let a = c.args in
    let t = sym c.fits.ensures ∙ not-false _ c.if-not-fits.false-raw in
    let late = c.if-clock-gt-CLOCK_MOST.false in
    unless-touched _ _ _ a.d a.d a.subs.now a.rows.now a.events.now a.subs.now a.rows.now a.events.now (joins-topic a.clock a.spec a.subs.now a.d a.rows.now a.events.now late t _ (c.snapshot_rows-k.ensures ∙ ap (λ (n : ℕ). snapshot_of n a.spec a.d a.rows.now) c.due-by.ensures) (sym c.refusal_of.ensures ∙ accepted-number c.refusal_of.result (sym c.is_err.ensures.value ∙ c.if-is_err.false)) (not-true _ c.if-not-d.true-raw)) (untouched a.d a.subs.now a.rows.now a.events.now)

pub overflow_sub-d : goal.overflow_sub-d
overflow_sub-d c =
    let a = c.args in
    let t = sym c.fits.ensures ∙ not-false _ c.if-not-fits.false-raw in
    let late = c.if-clock-gt-CLOCK_MOST.false in
    let f = fits-facts a.subs.now a.d (length a.rows.now) (length a.events.now) t in
    omega arith

pub overflow_sub-d-2 : goal.overflow_sub-d-2
overflow_sub-d-2 c =
    let a = c.args in
    let t = sym c.fits.ensures ∙ not-false _ c.if-not-fits.false-raw in
    let late = c.if-clock-gt-CLOCK_MOST.false in
    let f = fits-facts a.subs.now a.d (length a.rows.now) (length a.events.now) t in
    omega arith

pub returns-then-d-k : goal.returns-then-d-k
returns-then-d-k c =
    let a = c.args in
    let t = sym c.fits.ensures ∙ not-false _ c.if-not-fits.false-raw in
    let late = c.if-clock-gt-CLOCK_MOST.false in
    let f = fits-facts a.subs.now a.d (length a.rows.now) (length a.events.now) t in
    unless-touched _ _ _ a.d a.d a.subs.now a.rows.now a.events.now a.subs.now a.rows.now a.events.now (joins-full a.clock a.spec a.subs.now a.d a.rows.now a.events.now late t _ (c.snapshot_rows-k.ensures ∙ ap (λ (n : ℕ). snapshot_of n a.spec a.d a.rows.now) c.due-by.ensures) (sym c.refusal_of.ensures ∙ accepted-number c.refusal_of.result (sym c.is_err.ensures.value ∙ c.if-is_err.false)) (not-false _ c.if-not-d.false-raw) (omega (arith, c.if-d-k.true))) (untouched a.d a.subs.now a.rows.now a.events.now)

pub admit-requires : goal.admit-requires
admit-requires c =
    let a = c.args in
    let t = sym c.fits.ensures ∙ not-false _ c.if-not-fits.false-raw in
    let late = c.if-clock-gt-CLOCK_MOST.false in
    let f = fits-facts a.subs.now a.d (length a.rows.now) (length a.events.now) t in
    let z = (sym c.refusal_of.ensures ∙ accepted-number c.refusal_of.result (sym c.is_err.ensures.value ∙ c.if-is_err.false)) in
    let y = not-false _ c.if-not-d.false-raw in
    let r : a.d.events + (a.d.used + c.snapshot_rows-k.result) ≤ 512 = omega (arith, c.if-d-k.false) in
    (less a.clock a.spec a.subs.now a.d a.rows.now a.events.now late t _ (c.snapshot_rows-k.ensures ∙ ap (λ (n : ℕ). snapshot_of n a.spec a.d a.rows.now) c.due-by.ensures) z y r, λ q. subst⁻¹ (λ (n : ℕ). Browses n a.spec.selector c.snapshot_rows-k.result a.d a.rows.now) c.due-by.ensures (join-browses a.clock a.spec a.subs.now a.d a.rows.now a.events.now late t _ (c.snapshot_rows-k.ensures ∙ ap (λ (n : ℕ). snapshot_of n a.spec a.d a.rows.now) c.due-by.ensures) z y r q))

pub returns : goal.returns
returns c =
    let a = c.args in
    let t = sym c.fits.ensures ∙ not-false _ c.if-not-fits.false-raw in
    let late = c.if-clock-gt-CLOCK_MOST.false in
    let f = fits-facts a.subs.now a.d (length a.rows.now) (length a.events.now) t in
    let m = c.admit.ensures in
    join-done a.clock a.spec a.subs.now a.d a.rows.now a.events.now late t _ (c.snapshot_rows-k.ensures ∙ ap (λ (n : ℕ). snapshot_of n a.spec a.d a.rows.now) c.due-by.ensures) (sym c.refusal_of.ensures ∙ accepted-number c.refusal_of.result (sym c.is_err.ensures.value ∙ c.if-is_err.false)) (not-false _ c.if-not-d.false-raw) (omega (arith, c.if-d-k.false)) _ _ _ (m.value.0 ∙ ap (λ (n : ℕ). joined_head n a.spec c.snapshot_rows-k.result a.d a.rows.now) c.due-by.ensures) (m.value.1 ∙ ap (λ (n : ℕ). joined_rows n a.spec c.snapshot_rows-k.result a.d a.rows.now) c.due-by.ensures) m.subs_after
