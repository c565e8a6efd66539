use mathlib.Core.Path.{ap, ◌∙◌}
use native.Mathlib.Omega.{arith}
use lib.ListN.{take}
use Rattle.model.specs.declared.Id.{Id}
use Rattle.consumers.specs.Table.{position_from}
use Rattle.joins.proofs.Refusals.{refusal-present, refusal-full, refusal-rows, refusal-none}
use Rattle.joins.proofs.refusal_of.Goals as goal

pub returns-then-d-ge-CONSUMERS : goal.returns-then-d-ge-CONSUMERS
returns-then-d-ge-CONSUMERS c =
    let a = c.args in
    let e = c.position.ensures ∙ ap (λ (i : Id). position_from 0 i (take a.d.consumers a.subs.now)) c.of_words-id.ensures in
    refusal-full a.spec a.subs.now a.d a.k _ e c.in-None.is c.if-d-ge-CONSUMERS.true

pub returns-then-free_rows-k : goal.returns-then-free_rows-k
returns-then-free_rows-k c =
    let a = c.args in
    let e = c.position.ensures ∙ ap (λ (i : Id). position_from 0 i (take a.d.consumers a.subs.now)) c.of_words-id.ensures in
    refusal-rows a.spec a.subs.now a.d a.k _ e c.in-None.is c.if-d-ge-CONSUMERS.false (omega (arith, c.if-free_rows-k.true, c.free_rows.ensures))

pub returns-in-Some : goal.returns-in-Some
returns-in-Some c =
    let a = c.args in
    let e = c.position.ensures ∙ ap (λ (i : Id). position_from 0 i (take a.d.consumers a.subs.now)) c.of_words-id.ensures in
    refusal-present a.spec a.subs.now a.d a.k _ e _ c.in-Some.is

pub returns-else-free_rows-k : goal.returns-else-free_rows-k
returns-else-free_rows-k c =
    let a = c.args in
    let e = c.position.ensures ∙ ap (λ (i : Id). position_from 0 i (take a.d.consumers a.subs.now)) c.of_words-id.ensures in
    refusal-none a.spec a.subs.now a.d a.k _ e c.in-None.is c.if-d-ge-CONSUMERS.false (omega (arith, c.if-free_rows-k.false, c.free_rows.ensures))
