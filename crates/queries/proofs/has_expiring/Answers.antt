use mathlib.Core.Path.{sym, ap, ◌∙◌}
use native.Mathlib.Omega.{arith}
use lib.Seq.{slice, length-take-le}
use Prim.Native.Nat.{ℕ}
use Rattle.definition.specs.Base.{all}
use Rattle.definition.specs.Queries.{expirations}
use Rattle.queries.specs.Answers.{lasts}
use Rattle.queries.proofs.Opened.{refused}
use Rattle.queries.proofs.Answered.{expiring-replies, few}
use Rattle.queries.proofs.has_expiring.Goals as goal

pub returns-then-refusal-ne0 : goal.returns-then-refusal-ne0
returns-then-refusal-ne0 c =
    let a = c.args in
    refused a.head.now a.subs.now a.rows.now expirations c.barred-refusal.result c.barred-refusal.ensures c.if-refusal-ne0.true

pub lasting-waiting-requires : goal.lasting-waiting-requires
lasting-waiting-requires c =
    let a = c.args in
    let z = sym c.barred-refusal.ensures ∙ c.if-refusal-ne0.false in
    let n = few a.head.now a.subs.now a.rows.now z c.load-d.result c.load-d.ensures in record { from_le_to = omega (arith, c.first_waiting.ensures); to_in_bounds = omega (arith, n.1, n.2) }

pub slice_bounds-subs_lasting-end : goal.slice_bounds-subs_lasting-end
slice_bounds-subs_lasting-end c =
    let a = c.args in
    let z = sym c.barred-refusal.ensures ∙ c.if-refusal-ne0.false in
    let n = few a.head.now a.subs.now a.rows.now z c.load-d.result c.load-d.ensures in
    sym (length-take-le c.load-d.result.consumers a.subs.now n.3)

pub subs_lasting-held-requires : goal.subs_lasting-held-requires
subs_lasting-held-requires c =
    let a = c.args in
    let z = sym c.barred-refusal.ensures ∙ c.if-refusal-ne0.false in
    let n = few a.head.now a.subs.now a.rows.now z c.load-d.result c.load-d.ensures in n.4

pub returns : goal.returns
returns c =
    let a = c.args in
    let z = sym c.barred-refusal.ensures ∙ c.if-refusal-ne0.false in
    let e = c.lasting-waiting.ensures ∙ ap (λ (n : ℕ). all lasts (slice n c.load-d.result.used a.rows.now)) c.first_waiting.ensures in
    expiring-replies a.head.now a.subs.now a.rows.now z c.load-d.result c.load-d.ensures c.lasting-waiting.result c.subs_lasting-held.result e c.subs_lasting-held.ensures
