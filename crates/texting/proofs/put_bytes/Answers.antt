use mathlib.Core.Path.{sym}
use lib.Seq.{take_all}
use Rattle.callfile.proofs.Parts.{then, line-puts, none-put}
use Rattle.texting.proofs.Showing.{shown-next}
use native.Mathlib.Omega.{arith}
use Rattle.texting.proofs.put_bytes.Goals as goal

pub loop-b-init : goal.loop-b-init
loop-b-init c = let a = c.args in (omega arith, none-put a.at a.out.now)

pub loop-b-preserved : goal.loop-b-preserved
loop-b-preserved c =
    let a = c.args in
    let v = c.loop-b.invariant in
    let p = line-puts (omega (arith, v.1.same)) (omega arith) c.put_byte-next.ensures in
    (omega (arith, p.next), rw (shown-next a.part.now c.loop-b.b-index (omega arith), sym c.shown.ensures) (then v.1 p))

pub returns : goal.returns
returns c =
    let a = c.args in
    let v = c.loop-b.invariant in
    (rw (take_all c.loop-b.b-index a.part.now (omega arith)) at v.1, omega arith)
