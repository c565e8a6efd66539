use mathlib.Core.Path.{sym, ap, ◌∙◌}
use mathlib.Core.Bool.{not}
use Prim.Native.Nat.{◌^◌}
use borrow.Author.Tests.{not-true, not-false, le-leb, lt-leb}
use lib.Dec.{leb}
use lib.ListN.{length}
use Rattle.definition.specs.Destination.{dispatch_topic}
use Rattle.state.specs.Fits.{fits}
use Rattle.state.proofs.Answers.{first-no, second-no, third-no, three-yes, leaves-no}
use Rattle.state.proofs.Fitting.{fits-facts}
use Rattle.state.proofs.Leaves.{when-leaves}
use Rattle.topics.specs.Topics.{Dispatched}
use Rattle.topics.proofs.dispatch_topic.Goals as goal

pub returns-then-by-gt-CLOCK_MOST : goal.returns-then-by-gt-CLOCK_MOST
returns-then-by-gt-CLOCK_MOST c =
    let a = c.args in
    leaves-no _ (Dispatched a.d a.d) (dispatch_topic a.by) a.d a.subs.now a.rows.now a.events.now (second-no (fits a.subs.now a.d (length a.rows.now) (length a.events.now)) (leb a.by (2 ^ 62)) (not a.d.queue) (lt-leb a.by (2 ^ 62) c.if-by-gt-CLOCK_MOST.true))

pub returns-then-d : goal.returns-then-d
returns-then-d c =
    let a = c.args in
    leaves-no _ (Dispatched a.d a.d) (dispatch_topic a.by) a.d a.subs.now a.rows.now a.events.now (third-no (fits a.subs.now a.d (length a.rows.now) (length a.events.now)) (leb a.by (2 ^ 62)) (not a.d.queue) (ap not c.if-d.true))

pub returns-then-not-fits : goal.returns-then-not-fits
returns-then-not-fits c =
    let a = c.args in
    leaves-no _ (Dispatched a.d a.d) (dispatch_topic a.by) a.d a.subs.now a.rows.now a.events.now (first-no (fits a.subs.now a.d (length a.rows.now) (length a.events.now)) (leb a.by (2 ^ 62)) (not a.d.queue) (sym c.fits.ensures ∙ not-true _ c.if-not-fits.true-raw))

pub serve_all-requires : goal.serve_all-requires
serve_all-requires c =
    let a = c.args in
    let f = sym c.fits.ensures ∙ not-false _ c.if-not-fits.false-raw in
    (fits-facts a.subs.now a.d (length a.rows.now) (length a.events.now) f, c.if-d.false, c.if-by-gt-CLOCK_MOST.false)

pub returns : goal.returns
returns c =
    let a = c.args in
    let f = sym c.fits.ensures ∙ not-false _ c.if-not-fits.false-raw in
    let clock = le-leb a.by (2 ^ 62) c.if-by-gt-CLOCK_MOST.false in
    when-leaves _ _ (dispatch_topic a.by) a.d _ a.subs.now a.rows.now a.events.now _ _ _ (three-yes (fits a.subs.now a.d (length a.rows.now) (length a.events.now)) (leb a.by (2 ^ 62)) (not a.d.queue) f clock (ap not c.if-d.false)) c.serve_all.ensures
