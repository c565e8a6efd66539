use mathlib.Core.Path.{sym, ◌∙◌}
use borrow.Author.Tests.{not-true, not-false}
use lib.ListN.{length}
use Rattle.definition.specs.Layout.{lent}
use Rattle.acks.specs.Acks.{ack_of}
use Rattle.rejects.proofs.Copying.{copied-same, copied-nothing}
use Rattle.rejects.proofs.Called.{call-other, call-refused, call-rejects}
use Rattle.rejects.proofs.rejected.Goals as goal

pub returns-then-not-rejects : goal.returns-then-not-rejects
returns-then-not-rejects c =
    let a = c.args in
    copied-nothing a.out.now (call-other (lent a.head.now a.subs.now a.rows.now) (length a.out.now) a.c.code a.c.words (sym c.rejects.ensures ∙ not-true _ c.if-not-rejects.true-raw))

pub returns-then-not-in_range : goal.returns-then-not-in_range
returns-then-not-in_range c =
    let a = c.args in
    copied-nothing a.out.now (call-refused (lent a.head.now a.subs.now a.rows.now) (length a.out.now) a.c.code a.c.words (sym c.in_range.ensures ∙ not-true _ c.if-not-in_range.true-raw))

pub returns : goal.returns
returns c =
    let a = c.args in
    copied-same (call-rejects (lent a.head.now a.subs.now a.rows.now) (length a.out.now) a.c.code a.c.words (sym c.rejects.ensures ∙ not-false _ c.if-not-rejects.false-raw) (sym c.in_range.ensures ∙ not-false _ c.if-not-in_range.false-raw) c.id_of.result c.id_of.ensures (ack_of c.ack_of-a.result) c.ack_of-a.ensures) c.of_buffers.ensures
