use mathlib.Core.Path.{sym, ap, ◌∙◌}
use mathlib.Core.Bool.{Bool, ◌&&◌, and-false}
use Prim.Native.Nat.{ℕ, ◌^◌}
use native.Mathlib.Omega.{arith}
use borrow.Author.Tests.{not-true, not-false, le-leb, lt-leb}
use lib.Dec.{leb}
use lib.ListN.{length}
use Rattle.definition.proofs.Tests.{and_both}
use Rattle.state.specs.Fits.{fits}
use Rattle.state.proofs.Fitting.{fits-facts}
use Rattle.joins.specs.Joins.{snapshot_of}
use Rattle.joins.proofs.Outcomes.{refused-unfit, refused-fit}
use Rattle.joins.proofs.refusal.Goals as goal

pub returns-then-clock-gt-CLOCK_MOST : goal.returns-then-clock-gt-CLOCK_MOST
returns-then-clock-gt-CLOCK_MOST c =
    let a = c.args in
    refused-unfit _ a.clock a.spec a.d a.subs.now a.rows.now (ap (λ (b : Bool). fits a.subs.now a.d (length a.rows.now) 545 && b) (lt-leb a.clock (2 ^ 62) c.if-clock-gt-CLOCK_MOST.true) ∙ and-false (fits a.subs.now a.d (length a.rows.now) 545))

pub returns-then-not-fits : goal.returns-then-not-fits
returns-then-not-fits c =
    let a = c.args in
    refused-unfit _ a.clock a.spec a.d a.subs.now a.rows.now (ap (λ (b : Bool). b && leb a.clock (2 ^ 62)) (sym c.fits.ensures ∙ not-true _ c.if-not-fits.true-raw))

pub snapshot_rows-k-requires : goal.snapshot_rows-k-requires
snapshot_rows-k-requires c =
    let a = c.args in
    let f = fits-facts a.subs.now a.d (length a.rows.now) 545 (sym c.fits.ensures ∙ not-false _ c.if-not-fits.false-raw) in
    let u = f.rows-used in
    (omega arith, omega arith, omega (arith, c.if-clock-gt-CLOCK_MOST.false, c.due-by.ensures))

pub returns : goal.returns
returns c =
    let a = c.args in
    let t = sym c.fits.ensures ∙ not-false _ c.if-not-fits.false-raw in
    let f = fits-facts a.subs.now a.d (length a.rows.now) 545 t in
    refused-fit a.clock a.spec a.d a.subs.now a.rows.now 545 f _ (and_both _ _ t (le-leb a.clock (2 ^ 62) c.if-clock-gt-CLOCK_MOST.false)) _ _ (c.snapshot_rows-k.ensures ∙ ap (λ (n : ℕ). snapshot_of n a.spec a.d a.rows.now) c.due-by.ensures) c.refusal_of.ensures
