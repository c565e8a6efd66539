use mathlib.Core.Path.{sym, ◌∙◌}
use native.Mathlib.Omega.{arith}
use Rattle.dispatch.proofs.Sorts.{with-browser, without-browser, none-there}
use Rattle.dispatch.proofs.dispatch_queue.Goals as goal

pub returns-then-d-eq0 : goal.returns-then-d-eq0
returns-then-d-eq0 c =
    let a = c.args in
    none-there a.by a.d a.subs.now a.rows.now a.events.now c.if-d-eq0.true

pub returns-then-any_browser : goal.returns-then-any_browser
returns-then-any_browser c =
    let a = c.args in
    let r = c.browsers_first in
    with-browser a.d r.result a.subs.now a.rows.now a.events.now r.new.subs r.new.rows r.new.events a.by (sym c.any_browser.ensures ∙ c.if-any_browser.true) r.ensures

pub returns : goal.returns
returns c =
    let a = c.args in
    let some = c.if-d-eq0.false in
    let r = c.serve_rounds in
    without-browser a.d r.result a.subs.now a.rows.now a.events.now r.new.subs r.new.rows r.new.events a.by (omega (arith, some)) (sym c.any_browser.ensures ∙ c.if-any_browser.false) r.ensures
