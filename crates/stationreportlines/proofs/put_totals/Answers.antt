use mathlib.Core.Path.{sym, ◌∙◌}
use borrow.Author.Tests.{leb-true, not-true, not-false}
use Rattle.callfile.proofs.Parts.{whole-line, no_room}
use native.Mathlib.Omega.{arith}
use Rattle.stationreportlines.proofs.put_totals.Goals as goal

pub returns-then-not-lines_fit : goal.returns-then-not-lines_fit
returns-then-not-lines_fit c = no_room _ _ _ (sym c.lines_fit.ensures ∙ not-true _ c.if-not-lines_fit.true-raw)

pub totals_line-requires : goal.totals_line-requires
totals_line-requires c = leb-true _ _ (sym c.lines_fit.ensures ∙ not-false _ c.if-not-lines_fit.false-raw)

pub returns : goal.returns
returns c =
    let t = sym c.lines_fit.ensures ∙ not-false _ c.if-not-lines_fit.false-raw in
    let k = c.totals_line.ensures in
    whole-line t (k.0, omega (arith, k.1))
