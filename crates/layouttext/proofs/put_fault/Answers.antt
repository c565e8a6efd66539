use Rattle.callfile.proofs.Parts.{then}
use Rattle.layouttext.specs.Messages.{fault_text}
use native.Mathlib.Omega.{arith}
use Rattle.layouttext.proofs.put_fault.Goals as goal

pub returns : goal.returns
unfolding fault_text
returns c =
    let p = c.put_named-a.ensures in
    let r = c.put_complaint.ensures in
    (then p.0 r.0, omega (arith, p.1, r.1))
