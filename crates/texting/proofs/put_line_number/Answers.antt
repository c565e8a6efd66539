use mathlib.Core.Bool.{false}
use Rattle.callfile.proofs.Parts.{then, line-puts}
use Rattle.calltext.proofs.Showing.{field-length}
use native.Mathlib.Omega.{arith}
use Rattle.texting.proofs.put_line_number.Goals as goal

pub returns : goal.returns
returns c =
    let a = c.args in
    let p = line-puts (omega arith) (omega arith) c.put_all-a.ensures in
    let q = line-puts (omega (arith, p.next, p.same)) (omega (arith, field-length false a.n)) c.put_word.ensures in
    (then p q, omega (arith, p.next, q.next, field-length false a.n))
