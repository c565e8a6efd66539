use mathlib.Core.Path.{sym, ◌∙◌}
use mathlib.Core.Bool.{false}
use Rattle.callfile.proofs.Parts.{line-puts, none-put}
use Rattle.calltext.proofs.Showing.{field-length, code-known, code-raw}
use native.Mathlib.Omega.{arith}
use Rattle.calltext.proofs.put_code.Goals as goal

pub returns-then-has_name : goal.returns-then-has_name
returns-then-has_name c = let a = c.args in (rw (code-known a.code (sym c.has_name.ensures ∙ c.if-has_name.true)) (none-put a.at a.out.now), omega arith)

pub returns : goal.returns
returns c =
    let a = c.args in
    let p = line-puts (omega arith) (omega (arith, field-length false a.code)) c.put_word.ensures in
    (rw (code-raw a.code (sym c.has_name.ensures ∙ c.if-has_name.false)) p, omega (arith, p.next, field-length false a.code))
