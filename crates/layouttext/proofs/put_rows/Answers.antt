use Rattle.callfile.proofs.Parts.{then, line-puts}
use Rattle.layouttext.specs.Messages.{rows_text}
use native.Mathlib.Omega.{arith}
use Rattle.layouttext.proofs.put_rows.Goals as goal

pub returns : goal.returns
unfolding rows_text
returns c =
    let p = c.put_row-a.ensures in
    let q = c.put_row-b.ensures in
    let r = line-puts (omega (arith, q.1, q.0.same, p.1, p.0.same)) (omega arith) c.put_byte.ensures in
    (then p.0 (then q.0 r), omega (arith, p.1, q.1, r.next))
