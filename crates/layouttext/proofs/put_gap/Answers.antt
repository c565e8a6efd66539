use Rattle.callfile.proofs.Parts.{then, line-puts}
use Rattle.layouttext.specs.Messages.{gap_text}
use native.Mathlib.Omega.{arith}
use Rattle.layouttext.proofs.put_gap.Goals as goal

pub returns : goal.returns
unfolding gap_text
returns c =
    let p = c.put_named-a.ensures in
    let r = line-puts (omega (arith, p.1, p.0.same)) (omega arith) c.put_byte.ensures in
    (then p.0 r, omega (arith, p.1, r.next))
