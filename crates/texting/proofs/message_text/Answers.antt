use Rattle.callfile.proofs.Parts.{then}
use Rattle.texting.specs.Lines.{message}
use native.Mathlib.Omega.{arith}
use Rattle.texting.proofs.message_text.Goals as goal

pub returns : goal.returns
unfolding message
returns c =
    let p = c.put_line_number-a.ensures in
    let q = c.put_wrong.ensures in
    (then p.0 q.0, omega (arith, p.1, q.1))
