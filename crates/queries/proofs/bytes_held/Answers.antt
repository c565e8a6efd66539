use mathlib.Core.Path.{sym, ◌∙◌}
use Rattle.definition.specs.Queries.{bytes}
use Rattle.queries.proofs.Opened.{refused}
use Rattle.queries.proofs.Held.{bytes-known, bytes-replies}
use Rattle.queries.proofs.bytes_held.Goals as goal

pub returns-then-refusal-ne0 : goal.returns-then-refusal-ne0
returns-then-refusal-ne0 c =
    let a = c.args in
    refused a.head.now a.subs.now a.rows.now bytes c.barred-refusal.result c.barred-refusal.ensures c.if-refusal-ne0.true

pub bytes_of-requires : goal.bytes_of-requires
bytes_of-requires c =
    let a = c.args in
    let z = sym c.barred-refusal.ensures ∙ c.if-refusal-ne0.false in
    let b = bytes-known a.head.now a.subs.now a.rows.now z c.load-d.result c.load-d.ensures in record { used_in_bounds = b.0; used_bound = b.1; small = b.2; rows_value = b.3 }

pub returns : goal.returns
returns c =
    let a = c.args in
    let z = sym c.barred-refusal.ensures ∙ c.if-refusal-ne0.false in
    bytes-replies a.head.now a.subs.now a.rows.now z c.load-d.result c.load-d.ensures c.bytes_of.result c.bytes_of.ensures
