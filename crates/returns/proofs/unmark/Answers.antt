use mathlib.Core.Path.{sym, ◌∙◌}
use borrow.Author.Tests.{not-true, not-false}
use lib.ListN.{length}
use Rattle.state.proofs.Fitting.{fits-facts}
use Rattle.state.proofs.Answers.{leaves-no}
use Rattle.state.proofs.Leaves.{when-leaves}
use Rattle.returns.proofs.Answers.{fits-least}
use Rattle.returns.proofs.unmark.Goals as goal

pub returns-then-not-fits : goal.returns-then-not-fits
returns-then-not-fits c =
    let a = c.args in
    leaves-no _ _ _ a.d a.subs.now a.rows.now a.events.now (sym c.fits.ensures ∙ not-true _ c.if-not-fits.true-raw)

pub unmark_all-requires : goal.unmark_all-requires
unmark_all-requires c =
    let a = c.args in
    fits-least a.subs.now a.d (length a.rows.now) (length a.events.now) (fits-facts a.subs.now a.d (length a.rows.now) (length a.events.now) (sym c.fits.ensures ∙ not-false _ c.if-not-fits.false-raw))

pub returns : goal.returns
returns c =
    let a = c.args in
    let t = sym c.fits.ensures ∙ not-false _ c.if-not-fits.false-raw in
    when-leaves _ _ _ a.d a.d a.subs.now a.rows.now a.events.now a.subs.now _ a.events.now t (c.unmark_all.ensures a.events.now, tt)
