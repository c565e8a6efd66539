use mathlib.Core.Path.{◌≡◌, sym, ◌∙◌}
use mathlib.Core.Bool.{true}
use native.Mathlib.Omega.{arith}
use borrow.Author.Tests.{not-true, not-false}
use Rattle.consumers.specs.Consumers.{credit_of}
use Rattle.state.proofs.Events.{pushed_room}
use Rattle.browsers.proofs.Sending.{done-stop, done-finished, done-closed, none-held}
use Rattle.browsers.proofs.dispatch_browser.Goals as goal

pub returns-then-not-has_credit : goal.returns-then-not-has_credit
returns-then-not-has_credit c =
    let a = c.args in
    let v = c.send_snapshot-r in
    done-stop a.by a.base a.rows.now a.events.now a.start a.before _ _ _ _ v.ensures.sending (sym c.has_credit.ensures ∙ not-true _ c.if-not-has_credit.true-raw)

pub returns-then-s : goal.returns-then-s
returns-then-s c =
    let a = c.args in
    let v = c.send_snapshot-r in
    let yes : credit_of v.result.sub ≡ true = sym c.has_credit.ensures ∙ not-false _ c.if-not-has_credit.false-raw in
    done-finished a.by a.base a.rows.now a.events.now a.start a.before _ _ _ _ v.ensures.sending (none-held _ _ v.ensures.sub_value yes) yes c.if-s.true

pub returns : goal.returns
returns c =
    let a = c.args in
    let v = c.send_snapshot-r in
    let n = c.push_null-told in
    let yes : credit_of v.result.sub ≡ true = sym c.has_credit.ensures ∙ not-false _ c.if-not-has_credit.false-raw in
    let room = v.ensures.sending.fine.events in
    done-closed a.by a.base a.rows.now a.events.now a.start a.before _ _ _ _ v.ensures.sending (none-held _ _ v.ensures.sub_value yes) yes _ _ _ c.closed.ensures (n.ensures.0 ∙ pushed_room v.result.head _ (omega (arith, room))) n.ensures.1 c.if-s.false
