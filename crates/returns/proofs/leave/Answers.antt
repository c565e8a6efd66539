use mathlib.Core.Path.{◌≡◌, sym, ◌∙◌}
use native.Mathlib.Omega.{arith}
use borrow.Author.Tests.{not-true, not-false}
use lib.ListN.{length, take}
use lib.Seq.{length-take-le}
use mir.Syntax.{w64}
use mir.Val.{to_z, of_z}
use mir.ValLaws.{to_z-of_z}
use Rattle.consumers.proofs.Seek.{position-within}
use Rattle.state.proofs.Fitting.{fits-facts}
use Rattle.state.proofs.Answers.{leaves-no}
use Rattle.state.proofs.Leaves.{when-leaves}
use Rattle.returns.proofs.Answers.{bounds-late, bounds-unfit, bounds-fit, fits-least, leaves-absent}
use Rattle.returns.proofs.leave.Goals as goal

pub returns-then-clock-gt-CLOCK_MOST : goal.returns-then-clock-gt-CLOCK_MOST
returns-then-clock-gt-CLOCK_MOST c =
    let a = c.args in
    leaves-no _ _ _ a.d a.subs.now a.rows.now a.events.now (bounds-late a.clock a.subs.now a.d (length a.rows.now) (length a.events.now) c.if-clock-gt-CLOCK_MOST.true)

pub returns-then-not-fits : goal.returns-then-not-fits
returns-then-not-fits c =
    let a = c.args in
    leaves-no _ _ _ a.d a.subs.now a.rows.now a.events.now (bounds-unfit a.clock a.subs.now a.d (length a.rows.now) (length a.events.now) (sym c.fits.ensures ∙ not-true _ c.if-not-fits.true-raw))

pub leave_at-requires : goal.leave_at-requires
leave_at-requires c =
    let a = c.args in
    let f = fits-facts a.subs.now a.d (length a.rows.now) (length a.events.now) (sym c.fits.ensures ∙ not-false _ c.if-not-fits.false-raw) in
    let e = sym c.position-found.ensures ∙ c.in-Some.is in
    let w = position-within a.id (take a.d.consumers a.subs.now) _ e in
    (fits-least a.subs.now a.d (length a.rows.now) (length a.events.now) f, omega (arith, w, length-take-le a.d.consumers a.subs.now (omega (arith, f.consumers, f.subs-long))), c.if-clock-gt-CLOCK_MOST.false)

pub returns-in-Some : goal.returns-in-Some
returns-in-Some c =
    let a = c.args in
    let t = bounds-fit a.clock a.subs.now a.d (length a.rows.now) (length a.events.now) (sym c.fits.ensures ∙ not-false _ c.if-not-fits.false-raw) c.if-clock-gt-CLOCK_MOST.false in
    let e = sym c.position-found.ensures ∙ c.in-Some.is in
    let z : to_z w64 (of_z w64 a.last) ≡ a.last = to_z-of_z w64 a.last c.ranges.last in
    let l = c.leave_at.ensures in
    when-leaves _ _ _ a.d _ a.subs.now a.rows.now a.events.now _ _ a.events.now t (rw z at (l.0 a.id a.events.now e), l.1)

pub returns-in-None : goal.returns-in-None
returns-in-None c =
    let a = c.args in
    let y = sym c.fits.ensures ∙ not-false _ c.if-not-fits.false-raw in
    let f = fits-facts a.subs.now a.d (length a.rows.now) (length a.events.now) y in
    let e = sym c.position-found.ensures ∙ c.in-None.is in
    when-leaves _ _ _ a.d a.d a.subs.now a.rows.now a.events.now a.subs.now a.rows.now a.events.now (bounds-fit a.clock a.subs.now a.d (length a.rows.now) (length a.events.now) y c.if-clock-gt-CLOCK_MOST.false) (leaves-absent a.id a.d a.subs.now a.clock a.last a.rows.now a.events.now f e, f.sent)
