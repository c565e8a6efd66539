use mathlib.Core.Path.{◌≡◌, sym, ◌∙◌}
use mathlib.Core.Bool.{true}
use Prim.Native.Nat.{◌^◌}
use borrow.Author.Tests.{not-true, not-false, le-leb}
use lib.ListN.{length}
use Rattle.definition.specs.Destination.{dispatch_queue}
use Rattle.state.specs.Fits.{fits}
use Rattle.state.proofs.Fitting.{fits-facts}
use Rattle.state.proofs.Leaves.{when-leaves, leaves-when}
use Rattle.state.proofs.Answers.{three-yes, leaves-no}
use Rattle.dispatch.proofs.Queue.{queue-some}
use Rattle.dispatch.proofs.browsers_first.Goals as goal

pub returns-then-not-fits : goal.returns-then-not-fits
returns-then-not-fits c =
    let a = c.args in
    leaves-no _ _ (dispatch_queue a.by) a.d a.subs.now a.rows.now a.events.now (sym c.fits.ensures ∙ not-true _ c.if-not-fits.true-raw)

pub returns : goal.returns
returns c =
    let a = c.args in
    let p = c.requires in
    let y : fits a.subs.now a.d (length a.rows.now) (length a.events.now) ≡ true = sym c.fits.ensures ∙ not-false _ c.if-not-fits.false-raw in
    let b = c.serve_browsers-shown in
    let l = leaves-when _ _ _ a.d b.result a.subs.now a.rows.now a.events.now b.new.subs b.new.rows b.new.events (three-yes _ _ _ y (le-leb a.by (2 ^ 62) p.1) p.0) b.ensures in
    let f = fits-facts a.subs.now a.d (length a.rows.now) (length a.events.now) y in
    when-leaves _ _ (dispatch_queue a.by) a.d _ a.subs.now a.rows.now a.events.now _ _ _ y
    (queue-some a.by a.d a.subs.now a.rows.now a.events.now f p.1 p.0 p.2 b.result b.new.subs b.new.rows b.new.events l.0 l.1 _ _ _ _ c.serve_rounds.ensures)
