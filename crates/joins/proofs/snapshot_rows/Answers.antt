use mathlib.Core.Path.{sym, ap, ◌∙◌}
use Prim.Native.Nat.{ℕ}
use native.Mathlib.Omega.{arith}
use borrow.Author.Tests.{not-true, not-false}
use lib.Seq.{slice}
use Rattle.definition.specs.Base.{tally}
use Rattle.definition.proofs.Tests.{if-true, if-false}
use Rattle.state.specs.State.{first_waiting}
use Rattle.joins.specs.Joins.{snapped}
use Rattle.joins.proofs.snapshot_rows.Goals as goal

pub returns-then-not-spec : goal.returns-then-not-spec
returns-then-not-spec c =
    let a = c.args in
    sym (if-false {b = a.spec.browser} (tally (snapped a.by a.spec.selector) (slice (first_waiting a.d) a.d.used a.rows.now)) 0 (not-true _ c.if-not-spec.true))

pub count_snapped-requires : goal.count_snapped-requires
count_snapped-requires c =
    let q = c.first_waiting.ensures in
    let h = c.requires in
    (omega (arith, h.0), h.1, h.2)

pub returns : goal.returns
returns c =
    let a = c.args in
    let n = c.count_snapped.ensures ∙ ap (λ (m : ℕ). tally (snapped a.by a.spec.selector) (slice m a.d.used a.rows.now)) c.first_waiting.ensures in
    n ∙ sym (if-true {b = a.spec.browser} (tally (snapped a.by a.spec.selector) (slice (first_waiting a.d) a.d.used a.rows.now)) 0 (not-false _ c.if-not-spec.false))
