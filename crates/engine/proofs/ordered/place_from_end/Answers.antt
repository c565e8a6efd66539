use mathlib.Core.Path.{◌≡◌, sym, ap, ◌∙◌}
use Prim.Native.Nat.{ℕ, ◌≤◌}
use native.Mathlib.Omega.{arith}
use lib.ListN.{length}
use lib.Seq.{slice}
use Rattle.table.specs.Table.{place_from}
use Rattle.table.proofs.Bounds.{place_in}
use Rattle.table.proofs.Loops.{place_none}
use Rattle.engine.proofs.Ascending.{place_down, order-down, place_here}
use Rattle.engine.proofs.ordered.place_from_end.Goals as goal

pub loop-i-init : goal.loop-i-init
loop-i-init c =
    let a = c.args in
    (c.requires.0, omega arith, c.requires.2, sym (place_in a.from a.to a.seq a.rows.now c.requires.0 c.requires.1))

pub returns-then-rows-i : goal.returns-then-rows-i
returns-then-rows-i c =
    let l = c.loop-i in
    let a = c.args in
    sym (place_here a.rows.now a.from l.i a.seq c.loop-i-test.true (omega (arith, l.invariant.1, c.requires.1)) l.invariant.2 c.if-rows-i.true) ∙ l.invariant.3

pub loop-i-preserved : goal.loop-i-preserved
loop-i-preserved c =
    let l = c.loop-i in
    let a = c.args in
    let t = c.loop-i-test.true in
    let w : l.i ≤ length a.rows.now = omega (arith, l.invariant.1, c.requires.1) in (
      omega (arith, t),
      omega (arith, l.invariant.1),
      order-down a.rows.now a.from l.i a.seq t w l.invariant.2,
      sym (place_down a.rows.now a.from l.i a.seq t w c.if-rows-i.false) ∙ l.invariant.3,
    )

pub returns : goal.returns
returns c =
    let l = c.loop-i in
    let a = c.args in
    let e : a.from ≡ l.i = omega (arith, c.loop-i-test.false, l.invariant.0) in
    sym (ap (λ (n : ℕ). place_from a.from a.seq (slice a.from n a.rows.now)) (sym e) ∙ place_none a.rows.now a.from a.seq) ∙ l.invariant.3
