use mathlib.Core.Path.{◌∙◌}
use Rattle.rejects.proofs.Rows.{letter-not, letter-gone, letter-there}
use Rattle.rejects.proofs.dies.Goals as goal

pub returns-then-row-eq0 : goal.returns-then-row-eq0
returns-then-row-eq0 c = let a = c.args in letter-not a.gone a.id a.p a.row c.if-row-eq0.true

pub returns-then-gone : goal.returns-then-gone
returns-then-gone c =
    let a = c.args in
    c.wanted.ensures ∙ letter-gone a.gone a.id a.p a.row c.if-row-eq0.false c.if-gone.true

pub returns : goal.returns
returns c =
    let a = c.args in
    c.has.ensures ∙ letter-there a.gone a.id a.p a.row c.if-row-eq0.false c.if-gone.false
