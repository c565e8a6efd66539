use mathlib.Core.Path.{sym, ap, ◌∙◌}
use mathlib.Core.Bool.{not}
use borrow.Author.Tests.{not-true, not-false, eq-eqb, ne_eqb}
use Rattle.stationcalls.specs.Parts.{lent_all}
use Rattle.stationcalls.proofs.Going.{opens_not, away-not, own-stops, others-stop}
use Rattle.stationcalls.proofs.stopped.Goals as goal

pub returns-then-code-eq-OPEN : goal.returns-then-code-eq-OPEN
returns-then-code-eq-OPEN c =
    let a = c.args in
    let b = lent_all a.heads.now a.subs.now a.rows.now a.own.now in
    opens_not b a.number a.code (eq-eqb a.code 0 c.if-code-eq-OPEN.true)

pub returns-then-absent : goal.returns-then-absent
returns-then-absent c =
    let a = c.args in
    let b = lent_all a.heads.now a.subs.now a.rows.now a.own.now in
    away-not b a.number a.code (ne_eqb a.code 0 c.if-code-eq-OPEN.false) (sym c.absent.ensures ∙ c.if-absent.true)

pub returns-then-not-ok : goal.returns-then-not-ok
returns-then-not-ok c =
    let a = c.args in
    let b = lent_all a.heads.now a.subs.now a.rows.now a.own.now in
    own-stops b a.number a.code (ne_eqb a.code 0 c.if-code-eq-OPEN.false) (sym c.absent.ensures ∙ c.if-absent.false) (sym c.ok.ensures ∙ not-true _ c.if-not-ok.true-raw)

pub returns : goal.returns
returns c =
    let a = c.args in
    let b = lent_all a.heads.now a.subs.now a.rows.now a.own.now in
    ap not c.others_sound.ensures ∙ others-stop b a.number a.code (ne_eqb a.code 0 c.if-code-eq-OPEN.false) (sym c.absent.ensures ∙ c.if-absent.false) (sym c.ok.ensures ∙ not-false _ c.if-not-ok.false-raw)
