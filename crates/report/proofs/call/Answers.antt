use mathlib.Core.Path.{sym, ◌∙◌}
use borrow.Author.Tests.{not-true, not-false}
use Rattle.report.proofs.Noting.{short-noted, not_made, topic-noted, made-numbers, queue-noted}
use Rattle.definition.specs.Layout.{lent}
use Rattle.report.proofs.call.Goals as goal

pub returns-then-lists_short : goal.returns-then-lists_short
returns-then-lists_short c =
    let a = c.args in
    short-noted a.c a.n (lent a.head.now a.subs.now a.rows.now) a.events.now a.held.now a.left.now (sym c.lists_short.ensures ∙ c.if-lists_short.true)

pub returns-then-out-ne0 : goal.returns-then-out-ne0
returns-then-out-ne0 c =
    let k = c.call-out in
    let a = c.args in
    let s = sym c.lists_short.ensures ∙ c.if-lists_short.false in
    not_made a.c a.n (lent a.head.now a.subs.now a.rows.now) a.events.now a.held.now a.left.now s _ _ k.result.refusal k.result.answer k.result.events k.ensures c.if-out-ne0.true

pub returns-then-not-d : goal.returns-then-not-d
returns-then-not-d c =
    let d = c.load-d in
    let k = c.call-out in
    let a = c.args in
    let s = sym c.lists_short.ensures ∙ c.if-lists_short.false in
    topic-noted a.c a.n (lent a.head.now a.subs.now a.rows.now) a.events.now a.held.now a.left.now s _ _ k.result.refusal k.result.answer k.result.events k.ensures c.if-out-ne0.false d.result d.ensures (not-true _ c.if-not-d.true)

pub account-moved-requires : goal.account-moved-requires
account-moved-requires c =
    let d = c.load-d in
    let k = c.call-out in
    let a = c.args in
    let s = sym c.lists_short.ensures ∙ c.if-lists_short.false in record { held_numbers = made-numbers a.c a.n (lent a.head.now a.subs.now a.rows.now) a.events.now a.held.now a.left.now s _ _ k.result.refusal k.result.answer k.result.events k.ensures c.if-out-ne0.false d.result d.ensures (not-false _ c.if-not-d.false); left_value = s }

pub returns : goal.returns
returns c =
    let d = c.load-d in
    let k = c.call-out in
    let a = c.args in
    let s = sym c.lists_short.ensures ∙ c.if-lists_short.false in
    queue-noted a.c a.n (lent a.head.now a.subs.now a.rows.now) a.events.now a.held.now a.left.now s _ _ k.result.refusal k.result.answer k.result.events k.ensures c.if-out-ne0.false d.result d.ensures (not-false _ c.if-not-d.false) _ _ _ _ c.account-moved.ensures
