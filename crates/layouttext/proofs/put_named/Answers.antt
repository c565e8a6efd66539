use Rattle.callfile.proofs.Parts.{then, line-puts}
use native.Mathlib.Omega.{arith}
use Rattle.layouttext.proofs.put_named.Goals as goal

pub put_number-requires : goal.put_number-requires
put_number-requires c = let p = line-puts (omega arith) (omega arith) c.put_all-a.ensures in omega (arith, p.next, p.same)

pub returns : goal.returns
returns c =
    let p = line-puts (omega arith) (omega arith) c.put_all-a.ensures in
    let q = c.put_number.ensures in
    (then p q.0, omega (arith, p.next, q.1))
