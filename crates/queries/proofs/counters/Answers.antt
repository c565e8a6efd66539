use mathlib.Core.Path.{sym, ◌∙◌}
use Rattle.queries.proofs.Opened.{uncounted, counted}
use Rattle.queries.proofs.counters.Goals as goal

pub returns-then-refusal-ne0 : goal.returns-then-refusal-ne0
returns-then-refusal-ne0 c =
    let a = c.args in
    uncounted a.head.now a.subs.now a.rows.now c.barred-refusal.result c.barred-refusal.ensures c.if-refusal-ne0.true

pub returns : goal.returns
returns c =
    let a = c.args in
    let z = sym c.barred-refusal.ensures ∙ c.if-refusal-ne0.false in
    counted a.head.now a.subs.now a.rows.now z c.load-d.result c.load-d.ensures
