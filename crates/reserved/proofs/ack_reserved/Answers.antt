use mathlib.Core.Path.{sym, ap, ◌∙◌}
use borrow.Author.Tests.{not-true, not-false}
use lib.ListN.{length}
use Rattle.state.proofs.Fitting.{fits-facts}
use Rattle.acks.specs.Acks.{maybe_number, ack_of}
use Rattle.state.proofs.Leaves.{when-leaves}
use Rattle.state.proofs.Answers.{leaves-no}
use Rattle.reserved.proofs.Taking.{holds, acks-reserved, acks-nothing}
use Rattle.reserved.proofs.ack_reserved.Goals as goal

pub returns-then-not-fits : goal.returns-then-not-fits
returns-then-not-fits c =
    let a = c.args in
    leaves-no _ _ _ a.d a.subs.now a.rows.now a.events.now (sym c.fits.ensures ∙ not-true _ c.if-not-fits.true-raw)

pub returns-in_default : goal.returns-in_default
returns-in_default c =
    let a = c.args in
    let y = sym c.fits.ensures ∙ not-false _ c.if-not-fits.false-raw in
    let f = fits-facts a.subs.now a.d (length a.rows.now) (length a.events.now) y in
    when-leaves _ _ _ a.d _ a.subs.now a.rows.now a.events.now _ _ _ y (acks-nothing a.id (ack_of a.a) a.subs.now a.rows.now a.events.now a.d f (ack_of a.a).last (ap maybe_number c.in_default.is))

pub take_out-requires : goal.take_out-requires
take_out-requires c =
    let a = c.args in
    let y = sym c.fits.ensures ∙ not-false _ c.if-not-fits.false-raw in
    let f = fits-facts a.subs.now a.d (length a.rows.now) (length a.events.now) y in
    holds a.id (ack_of a.a) a.subs.now a.rows.now a.events.now a.d f

pub returns : goal.returns
returns c =
    let a = c.args in
    let y = sym c.fits.ensures ∙ not-false _ c.if-not-fits.false-raw in
    let f = fits-facts a.subs.now a.d (length a.rows.now) (length a.events.now) y in
    when-leaves _ _ _ a.d _ a.subs.now a.rows.now a.events.now _ _ _ y
    (acks-reserved a.id (ack_of a.a) a.subs.now a.rows.now a.events.now a.d f _ _ _ c.of-rule.result _ c.in-Some.last (ack_of a.a).last c.of-rule.ensures c.numbers-p.ensures (ap maybe_number c.in-Some.is) (c.take_out.ensures a.subs.now f))
