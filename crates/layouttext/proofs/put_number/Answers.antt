use mathlib.Core.Bool.{false}
use Rattle.callfile.proofs.Parts.{line-puts}
use Rattle.calltext.proofs.Showing.{field-length}
use native.Mathlib.Omega.{arith}
use Rattle.layouttext.proofs.put_number.Goals as goal

pub returns : goal.returns
returns c =
    let a = c.args in
    let q = line-puts c.requires (omega (arith, field-length false a.n)) c.put_word.ensures in
    (q, omega (arith, q.next, field-length false a.n))
