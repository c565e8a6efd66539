use mathlib.Core.Path.{sym, ◌∙◌}
use Prim.Native.Nat.{◌^◌}
use borrow.Author.Tests.{not-true, not-false, le-leb, lt-leb}
use lib.Dec.{leb}
use lib.ListN.{length}
use Rattle.state.specs.Fits.{fits}
use Rattle.state.proofs.Answers.{first-no, second-no, third-no, three-yes, leaves-no}
use Rattle.state.proofs.Fitting.{fits-facts}
use Rattle.state.proofs.Leaves.{when-leaves}
use Rattle.browsers.specs.Browsers.{browsed, BrowsersServed}
use Rattle.browsers.proofs.serve_browsers.Goals as goal

pub returns-then-by-gt-CLOCK_MOST : goal.returns-then-by-gt-CLOCK_MOST
returns-then-by-gt-CLOCK_MOST c =
    let a = c.args in
    leaves-no _ (BrowsersServed a.d a.d a.subs.now) (browsed a.by) a.d a.subs.now a.rows.now a.events.now (second-no (fits a.subs.now a.d (length a.rows.now) (length a.events.now)) (leb a.by (2 ^ 62)) a.d.queue (lt-leb a.by (2 ^ 62) c.if-by-gt-CLOCK_MOST.true))

pub returns-then-not-d : goal.returns-then-not-d
returns-then-not-d c =
    let a = c.args in
    leaves-no _ (BrowsersServed a.d a.d a.subs.now) (browsed a.by) a.d a.subs.now a.rows.now a.events.now (third-no (fits a.subs.now a.d (length a.rows.now) (length a.events.now)) (leb a.by (2 ^ 62)) a.d.queue (not-true _ c.if-not-d.true))

pub returns-then-not-fits : goal.returns-then-not-fits
returns-then-not-fits c =
    let a = c.args in
    leaves-no _ (BrowsersServed a.d a.d a.subs.now) (browsed a.by) a.d a.subs.now a.rows.now a.events.now (first-no (fits a.subs.now a.d (length a.rows.now) (length a.events.now)) (leb a.by (2 ^ 62)) a.d.queue (sym c.fits.ensures ∙ not-true _ c.if-not-fits.true-raw))

pub serve_each-requires : goal.serve_each-requires
serve_each-requires c =
    let a = c.args in
    let f = sym c.fits.ensures ∙ not-false _ c.if-not-fits.false-raw in
    (fits-facts a.subs.now a.d (length a.rows.now) (length a.events.now) f, not-false _ c.if-not-d.false, c.if-by-gt-CLOCK_MOST.false)

pub returns : goal.returns
returns c =
    let a = c.args in
    let f = sym c.fits.ensures ∙ not-false _ c.if-not-fits.false-raw in
    let clock = le-leb a.by (2 ^ 62) c.if-by-gt-CLOCK_MOST.false in
    when-leaves _ _ (browsed a.by) a.d _ a.subs.now a.rows.now a.events.now _ _ _ (three-yes (fits a.subs.now a.d (length a.rows.now) (length a.events.now)) (leb a.by (2 ^ 62)) a.d.queue f clock (not-false _ c.if-not-d.false)) c.serve_each.ensures
