use Prim.Native.Nat.{ℕ}
use mathlib.Core.Path.{◌≡◌, ap, ◌∙◌}
use native.Mathlib.Nat.{zero-add}
use native.Mathlib.Omega.{arith}
use Rattle.callfile.proofs.Checks.{left, left-none, part_small, one_more}
use Rattle.callfile.proofs.check_of.Goals as goal

pub loop-i-init : goal.loop-i-init
loop-i-init c = record { within = omega arith; small = omega arith; whole = zero-add _ }

pub overflow_mul-sum : goal.overflow_mul-sum
overflow_mul-sum c = omega (arith, part_small c.loop-i.i c.byte_at.result (omega arith) (omega arith))

pub overflow_add-sum-in-loop-i : goal.overflow_add-sum-in-loop-i
overflow_add-sum-in-loop-i c = omega (arith, part_small c.loop-i.i c.byte_at.result (omega arith) (omega arith))

pub loop-i-preserved : goal.loop-i-preserved
loop-i-preserved c = one_more c.byte_at.result (omega arith) (omega arith) c.byte_at.ensures.0 c.byte_at.ensures.1 c.loop-i.invariant

pub returns : goal.returns
returns c =
    let b = c.args.block.now in
    let i : ℕ = c.loop-i.i in
    let e : i ≡ 508 = omega arith in
    let n : left i b ≡ 0 = ap (λ (k : ℕ). left k b) e ∙ left-none b in
    omega (arith, n, c.loop-i.invariant.whole)
