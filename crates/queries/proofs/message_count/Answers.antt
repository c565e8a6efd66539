use mathlib.Core.Path.{sym, ◌∙◌}
use native.Mathlib.Omega.{arith}
use Rattle.definition.specs.Queries.{messages}
use Rattle.queries.proofs.Opened.{refused}
use Rattle.queries.proofs.Answered.{messages-replies, few}
use Rattle.queries.proofs.message_count.Goals as goal

pub returns-then-refusal-ne0 : goal.returns-then-refusal-ne0
returns-then-refusal-ne0 c =
    let a = c.args in
    refused a.head.now a.subs.now a.rows.now messages c.barred-refusal.result c.barred-refusal.ensures c.if-refusal-ne0.true

pub overflow_add-result : goal.overflow_add-result
overflow_add-result c =
    let a = c.args in
    let z = sym c.barred-refusal.ensures ∙ c.if-refusal-ne0.false in
    omega (arith, (few a.head.now a.subs.now a.rows.now z c.load-d.result c.load-d.ensures).0, c.held_rows-held.ensures)

pub returns : goal.returns
returns c =
    let a = c.args in
    let z = sym c.barred-refusal.ensures ∙ c.if-refusal-ne0.false in
    messages-replies a.head.now a.subs.now a.rows.now z c.load-d.result c.load-d.ensures c.held_rows-held.result c.held_rows-held.ensures
