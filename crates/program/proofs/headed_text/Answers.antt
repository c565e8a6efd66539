use Rattle.callfile.proofs.Parts.{then, line-puts}
use native.Mathlib.Omega.{arith}
use Rattle.program.proofs.headed_text.Goals as goal

pub returns : goal.returns
returns c =
    let a = c.args in
    let p = line-puts (omega arith) (omega arith) c.put_all-a.ensures in
    let q = line-puts (omega (arith, p.next, p.same)) (omega arith) c.put_all-b.ensures in
    let r = line-puts (omega (arith, p.next, p.same, q.next, q.same)) (omega arith) c.put_all.ensures in
    (then p (then q r), omega (arith, p.next, q.next, r.next))
