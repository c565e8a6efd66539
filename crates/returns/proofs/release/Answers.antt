use mathlib.Core.Path.{sym, ◌∙◌}
use borrow.Author.Tests.{not-true, not-false}
use lib.ListN.{length}
use Rattle.state.proofs.Fitting.{fits-facts}
use Rattle.state.proofs.Answers.{leaves-no}
use Rattle.state.proofs.Leaves.{when-leaves}
use Rattle.returns.proofs.Answers.{bounds-late, bounds-unfit, bounds-fit, fits-least}
use Rattle.returns.proofs.release.Goals as goal

pub returns-then-clock-gt-CLOCK_MOST : goal.returns-then-clock-gt-CLOCK_MOST
returns-then-clock-gt-CLOCK_MOST c =
    let a = c.args in
    leaves-no _ _ _ a.d a.subs.now a.rows.now a.events.now (bounds-late a.clock a.subs.now a.d (length a.rows.now) (length a.events.now) c.if-clock-gt-CLOCK_MOST.true)

pub returns-then-not-fits : goal.returns-then-not-fits
returns-then-not-fits c =
    let a = c.args in
    leaves-no _ _ _ a.d a.subs.now a.rows.now a.events.now (bounds-unfit a.clock a.subs.now a.d (length a.rows.now) (length a.events.now) (sym c.fits.ensures ∙ not-true _ c.if-not-fits.true-raw))

pub release_rows-requires : goal.release_rows-requires
release_rows-requires c =
    let a = c.args in
    let f = fits-facts a.subs.now a.d (length a.rows.now) (length a.events.now) (sym c.fits.ensures ∙ not-false _ c.if-not-fits.false-raw) in
    (fits-least a.subs.now a.d (length a.rows.now) (length a.events.now) f, c.if-clock-gt-CLOCK_MOST.false)

pub returns : goal.returns
returns c =
    let a = c.args in
    let t = bounds-fit a.clock a.subs.now a.d (length a.rows.now) (length a.events.now) (sym c.fits.ensures ∙ not-false _ c.if-not-fits.false-raw) c.if-clock-gt-CLOCK_MOST.false in
    let v = c.release_rows.ensures in
    when-leaves _ _ _ a.d _ a.subs.now a.rows.now a.events.now _ _ a.events.now t (v.0 a.events.now, v.1)
