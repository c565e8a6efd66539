use mathlib.Core.Path.{sym, ◌∙◌}
use Rattle.callfile.proofs.Parts.{line-puts}
use Rattle.texting.proofs.Showing.{wrong-mark, wrong_word}
use native.Mathlib.Omega.{arith}
use Rattle.texting.proofs.put_wrong.Goals as goal

pub returns-then-marked : goal.returns-then-marked
returns-then-marked c =
    let a = c.args in
    let p = line-puts (omega arith) (omega arith) c.put_all.ensures in
    (rw (wrong-mark a.n a.line.now (sym c.marked.ensures ∙ c.if-marked.true)) at p, omega (arith, p.next))

pub returns : goal.returns
returns c =
    let a = c.args in
    let p = c.put_fault.ensures in
    (rw (wrong_word a.n a.line.now (sym c.marked.ensures ∙ c.if-marked.false)) at p.0, p.1)
