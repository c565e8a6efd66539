use mathlib.Core.Path.{sym, ap, ◌∙◌}
use mathlib.Core.Bool.{Bool, not, ◌&&◌}
use borrow.Author.Tests.{not-true, not-false}
use Rattle.definition.specs.Layout.{sound_buffers, lent}
use Rattle.queries.proofs.Opened.{barred-short, barred-unsound, barred-none}
use Rattle.queries.proofs.barred.Goals as goal

pub returns-then-not-whole : goal.returns-then-not-whole
returns-then-not-whole c =
    let a = c.args in
    c.from.ensures ∙ sym (barred-short a.head.now a.subs.now a.rows.now (not-false _ (sym c.whole.ensures ∙ not-true _ c.if-not-whole.true-raw)))

pub returns-then-not-sound : goal.returns-then-not-sound
returns-then-not-sound c =
    let a = c.args in
    let s = not-true _ (sym c.whole.ensures ∙ not-false _ c.if-not-whole.false-raw) in
    c.from-then-not-sound.ensures ∙ sym (barred-unsound a.head.now a.subs.now a.rows.now s (sym (ap (λ (x : Bool). not x && sound_buffers (lent a.head.now a.subs.now a.rows.now)) s) ∙ sym c.sound.ensures ∙ not-true _ c.if-not-sound.true-raw))

pub returns : goal.returns
returns c =
    let a = c.args in
    let s = not-true _ (sym c.whole.ensures ∙ not-false _ c.if-not-whole.false-raw) in
    sym (barred-none a.head.now a.subs.now a.rows.now s (sym (ap (λ (x : Bool). not x && sound_buffers (lent a.head.now a.subs.now a.rows.now)) s) ∙ sym c.sound.ensures ∙ not-false _ c.if-not-sound.false-raw))
