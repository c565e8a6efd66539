use Rattle.callfile.proofs.Parts.{then, line-puts}
use Rattle.texting.specs.Lines.{long_message}
use native.Mathlib.Omega.{arith}
use Rattle.texting.proofs.long_text.Goals as goal

pub returns : goal.returns
unfolding long_message
returns c =
    let p = c.put_line_number-a.ensures in
    let q = line-puts (omega (arith, p.0.same, p.1)) (omega arith) c.put_all.ensures in
    (then p.0 q, omega (arith, p.1, q.next))
