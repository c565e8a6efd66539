use mathlib.Core.Path.{sym, ◌∙◌}
use Rattle.definition.specs.Queries.{of_kind}
use Rattle.queries.proofs.Opened.{refused}
use Rattle.queries.proofs.Answered.{kind-replies}
use Rattle.queries.proofs.is_queue.Goals as goal

pub returns-then-refusal-ne0 : goal.returns-then-refusal-ne0
returns-then-refusal-ne0 c =
    let a = c.args in
    refused a.head.now a.subs.now a.rows.now of_kind c.barred-refusal.result c.barred-refusal.ensures c.if-refusal-ne0.true

pub returns : goal.returns
returns c =
    let a = c.args in
    let z = sym c.barred-refusal.ensures ∙ c.if-refusal-ne0.false in
    kind-replies a.head.now a.subs.now a.rows.now z c.load-d.result c.load-d.ensures
