use mathlib.Core.Path.{sym, ◌∙◌}
use borrow.Author.Tests.{not-true, not-false}
use lib.ListN.{length}
use Rattle.definition.specs.Layout.{lent}
use Rattle.state.proofs.Fitting.{fits-facts}
use Rattle.acks.specs.Acks.{ack_of}
use Rattle.rejects.proofs.Copying.{copied-same, copied-nothing}
use Rattle.rejects.proofs.Rows.{head-short, list-short, not-fit, fit-rejected}
use Rattle.rejects.proofs.of_buffers.Goals as goal

pub returns-then-head-lt-HEAD_WORDS : goal.returns-then-head-lt-HEAD_WORDS
returns-then-head-lt-HEAD_WORDS c =
    let a = c.args in
    copied-nothing a.out.now (head-short (lent a.head.now a.subs.now a.rows.now) (length a.out.now) a.id (ack_of a.a) c.if-head-lt-HEAD_WORDS.true)

pub returns-then-out-lt-ROWS : goal.returns-then-out-lt-ROWS
returns-then-out-lt-ROWS c =
    let a = c.args in
    copied-nothing a.out.now (list-short (lent a.head.now a.subs.now a.rows.now) (length a.out.now) a.id (ack_of a.a) c.if-head-lt-HEAD_WORDS.false c.if-out-lt-ROWS.true)

pub returns-then-not-fits : goal.returns-then-not-fits
returns-then-not-fits c =
    let a = c.args in
    copied-nothing a.out.now (not-fit (lent a.head.now a.subs.now a.rows.now) (length a.out.now) a.id (ack_of a.a) c.if-head-lt-HEAD_WORDS.false c.if-out-lt-ROWS.false c.load-d.result c.load-d.ensures (sym c.fits.ensures ∙ not-true _ c.if-not-fits.true-raw))

pub of_ack-requires : goal.of_ack-requires
of_ack-requires c =
    let a = c.args in
    (fits-facts a.subs.now c.load-d.result (length a.rows.now) 545 (sym c.fits.ensures ∙ not-false _ c.if-not-fits.false-raw), c.if-out-lt-ROWS.false)

pub returns : goal.returns
returns c =
    let a = c.args in
    copied-same (fit-rejected (lent a.head.now a.subs.now a.rows.now) (length a.out.now) a.id (ack_of a.a) c.if-head-lt-HEAD_WORDS.false c.if-out-lt-ROWS.false c.load-d.result c.load-d.ensures (sym c.fits.ensures ∙ not-false _ c.if-not-fits.false-raw)) c.of_ack.ensures
