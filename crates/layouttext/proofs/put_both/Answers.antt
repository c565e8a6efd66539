use Rattle.callfile.proofs.Parts.{then}
use Rattle.layouttext.specs.Messages.{both_text}
use native.Mathlib.Omega.{arith}
use Rattle.layouttext.proofs.put_both.Goals as goal

pub returns : goal.returns
unfolding both_text
returns c =
    let p = c.put_named-a.ensures in
    let q = c.put_named-b.ensures in
    let r = c.put_named.ensures in
    (then p.0 (then q.0 r.0), omega (arith, p.1, q.1, r.1))
