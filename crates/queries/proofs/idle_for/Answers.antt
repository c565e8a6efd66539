use mathlib.Core.Path.{sym, ap, ◌∙◌}
use Prim.Native.Nat.{ℕ}
use Rattle.queries.specs.declared.Asked.{Asked}
use native.Mathlib.Omega.{arith}
use borrow.Author.Tests.{lt-leb}
use Rattle.definition.specs.Queries.{idle}
use Rattle.queries.proofs.Opened.{refused, out_of_range}
use Rattle.queries.proofs.Answered.{idle-replies}
use Rattle.queries.proofs.idle_for.Goals as goal

pub returns-then-refusal-ne0 : goal.returns-then-refusal-ne0
returns-then-refusal-ne0 c =
    let a = c.args in
    refused a.head.now a.subs.now a.rows.now (idle a.clock a.secs) c.barred-refusal.result c.barred-refusal.ensures c.if-refusal-ne0.true

pub returns-then-clock-gt-CLOCK_MOST : goal.returns-then-clock-gt-CLOCK_MOST
returns-then-clock-gt-CLOCK_MOST c =
    let a = c.args in
    let z = sym c.barred-refusal.ensures ∙ c.if-refusal-ne0.false in
    ap {B = Asked} (λ (k : ℕ). record { refusal = k; answer = 0 }) c.from.ensures ∙ out_of_range a.head.now a.subs.now a.rows.now z (idle a.clock a.secs) (lt-leb _ _ c.if-clock-gt-CLOCK_MOST.true)

pub returns : goal.returns
returns c =
    let a = c.args in
    let z = sym c.barred-refusal.ensures ∙ c.if-refusal-ne0.false in
    idle-replies a.head.now a.subs.now a.rows.now z c.load-d.result c.load-d.ensures a.clock a.secs c.is_idle.result (omega (arith, c.if-clock-gt-CLOCK_MOST.false)) c.is_idle.ensures
