use mathlib.Core.Path.{sym, ◌∙◌}
use Rattle.definition.specs.Queries.{consumers}
use Rattle.queries.proofs.Opened.{refused}
use Rattle.queries.proofs.Answered.{consumers-replies}
use Rattle.queries.proofs.has_consumers.Goals as goal

pub returns-then-refusal-ne0 : goal.returns-then-refusal-ne0
returns-then-refusal-ne0 c =
    let a = c.args in
    refused a.head.now a.subs.now a.rows.now consumers c.barred-refusal.result c.barred-refusal.ensures c.if-refusal-ne0.true

pub returns : goal.returns
returns c =
    let a = c.args in
    let z = sym c.barred-refusal.ensures ∙ c.if-refusal-ne0.false in
    consumers-replies a.head.now a.subs.now a.rows.now z c.load-d.result c.load-d.ensures
