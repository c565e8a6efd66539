use mathlib.Core.Path.{◌≡◌}
use Rattle.callfile.specs.Blocks.{call_at}
use Rattle.callfile.proofs.Parts.{then, nothing, line-puts}
use Rattle.texting.proofs.Showing.{text-length, no-texts, one-text}
use native.Mathlib.Omega.{arith}
use Rattle.texting.proofs.put_calls.Goals as goal

pub loop-k-init : goal.loop-k-init
loop-k-init c = let a = c.args in (omega arith, omega arith, rw (no-texts a.block.now) (nothing 0 a.out.now).0)

pub loop-k-preserved : goal.loop-k-preserved
loop-k-preserved c =
    let a = c.args in
    let v = c.loop-k.invariant in
    let d = call_at c.loop-k.k a.block.now in
    let p = line-puts (omega (arith, v.2.same)) (text-length d) (rw c.call_at.ensures at c.put_text-at.ensures) in
    (omega arith, omega (arith, p.next, text-length d), rw (one-text c.loop-k.k a.block.now) (then v.2 p))

pub returns : goal.returns
returns c =
    let a = c.args in
    let v = c.loop-k.invariant in
    let e : c.loop-k.k ≡ a.count = omega arith in
    (rw e at v.2, omega arith)
