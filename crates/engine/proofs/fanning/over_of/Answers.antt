use mathlib.Core.Path.{◌≡◌, sym, ◌∙◌}
use Prim.Native.Nat.{◌-◌}
use borrow.Author.Tests.{eq-eqb, ne_eqb}
use Rattle.definition.proofs.Tests.{if-true, if-false}
use native.Mathlib.Omega.{arith}
use Rattle.engine.proofs.fanning.over_of.Goals as goal

pub returns-then-limit-eq0 : goal.returns-then-limit-eq0
returns-then-limit-eq0 c = sym (if-true 0 _ (eq-eqb _ 0 c.if-limit-eq0.true))

pub returns-then-n-limit : goal.returns-then-n-limit
returns-then-n-limit c =
    let a = c.args in
    let h = c.if-n-limit.true in
    let z : 0 ≡ a.n - a.limit = omega arith in
    z ∙ sym (if-false 0 (a.n - a.limit) (ne_eqb a.limit 0 c.if-limit-eq0.false))

pub returns : goal.returns
returns c =
    let a = c.args in
    sym (if-false 0 (a.n - a.limit) (ne_eqb a.limit 0 c.if-limit-eq0.false))
