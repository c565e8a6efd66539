use mathlib.Core.Path.{sym, ◌∙◌}
use Prim.Native.Nat.{◌+◌, ◌<◌}
use native.Mathlib.Omega.{arith}
use Rattle.definition.specs.Queries.{sequence}
use Rattle.queries.proofs.Opened.{refused}
use Rattle.queries.proofs.Answered.{past-replies, seq-replies, few}
use Rattle.queries.proofs.seq_at.Goals as goal

pub returns-then-refusal-ne0 : goal.returns-then-refusal-ne0
returns-then-refusal-ne0 c =
    let a = c.args in
    refused a.head.now a.subs.now a.rows.now (sequence a.index) c.barred-refusal.result c.barred-refusal.ensures c.if-refusal-ne0.true

pub returns-then-d-index : goal.returns-then-d-index
returns-then-d-index c =
    let a = c.args in
    let z = sym c.barred-refusal.ensures ∙ c.if-refusal-ne0.false in
    past-replies a.head.now a.subs.now a.rows.now z c.load-d.result c.load-d.ensures a.index (omega (arith, c.if-d-index.true))

pub offset_bounds-rows-at : goal.offset_bounds-rows-at
offset_bounds-rows-at c =
    let a = c.args in
    let z = sym c.barred-refusal.ensures ∙ c.if-refusal-ne0.false in
    let n = few a.head.now a.subs.now a.rows.now z c.load-d.result c.load-d.ensures in
    let i : c.first_waiting.result + a.index < 512 = omega (arith, n.0, n.1, c.first_waiting.ensures, c.if-d-index.false) in
    record { fits = omega arith }

pub bounds-rows-at : goal.bounds-rows-at
bounds-rows-at c =
    let a = c.args in
    let z = sym c.barred-refusal.ensures ∙ c.if-refusal-ne0.false in
    let n = few a.head.now a.subs.now a.rows.now z c.load-d.result c.load-d.ensures in
    omega (arith, n.1, n.2, c.first_waiting.ensures, c.if-d-index.false)

pub returns : goal.returns
returns c =
    let a = c.args in
    let z = sym c.barred-refusal.ensures ∙ c.if-refusal-ne0.false in
    seq-replies a.head.now a.subs.now a.rows.now z c.load-d.result c.load-d.ensures a.index c.first_waiting.result (omega (arith, c.if-d-index.false)) c.first_waiting.ensures
