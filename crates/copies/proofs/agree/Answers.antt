use mathlib.Core.Path.{sym, ap, ◌∙◌}
use lib.ListN.{take}
use lib.Seq.{take_all, take-length}
use Rattle.copies.specs.Copies.{agree_at}
use Rattle.copies.proofs.Laws.{agree-means}
use native.Mathlib.Omega.{arith}
use Rattle.copies.proofs.agree.Goals as goal

pub returns-then-len-n : goal.returns-then-len-n
returns-then-len-n c =
    let a = c.args in
    let rows = a.rows.now in
    c.few_agree.ensures ∙ ap agree_at (take-length rows ∙ sym (take_all a.n rows (omega arith))) ∙ agree-means (take a.n rows)

pub returns-then-n-le-FEW : goal.returns-then-n-le-FEW
returns-then-n-le-FEW c = let a = c.args in c.few_agree-then-n-le-FEW.ensures ∙ agree-means (take a.n a.rows.now)

pub returns-then-n-le-SOME : goal.returns-then-n-le-SOME
returns-then-n-le-SOME c = let a = c.args in c.many_agree.ensures ∙ agree-means (take a.n a.rows.now)

pub returns-then-n-le-ROWS : goal.returns-then-n-le-ROWS
returns-then-n-le-ROWS c = let a = c.args in c.many_agree-then-n-le-ROWS.ensures ∙ agree-means (take a.n a.rows.now)

pub returns : goal.returns
returns c = let a = c.args in c.few_agree-2.ensures ∙ agree-means (take a.n a.rows.now)
