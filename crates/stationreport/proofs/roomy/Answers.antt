use mathlib.Core.Path.{sym, ◌∙◌}
use borrow.Author.Tests.{not-true, not-false}
use lib.ListN.{length}
use mathlib.Core.Bool.{◌&&◌}
use lib.Dec.{eqb, leb}
use Rattle.definition_station.specs.Layout.{station_lengths_of}
use Rattle.stationcalls.specs.Parts.{lent_all}
use Rattle.stationreport.proofs.Reported.{not_eight, too_short, fit-goes}
use Rattle.stationreport.proofs.roomy.Goals as goal

pub returns-then-gone-ne8 : goal.returns-then-gone-ne8
returns-then-gone-ne8 c =
    let a = c.args in
    let b = lent_all a.heads.now a.subs.now a.rows.now a.own.now in
    not_eight (station_lengths_of b (length a.events.now)) a.gone (eqb a.block 512 && (leb a.at.have 512 && leb 1740800 a.out)) a.at.goes_on c.if-gone-ne8.true

pub returns-then-not-whole : goal.returns-then-not-whole
returns-then-not-whole c =
    let a = c.args in
    let b = lent_all a.heads.now a.subs.now a.rows.now a.own.now in
    too_short (station_lengths_of b (length a.events.now)) a.gone (eqb a.block 512 && (leb a.at.have 512 && leb 1740800 a.out)) a.at.goes_on c.if-gone-ne8.false
    (not-false _ (sym c.whole.ensures ∙ not-true _ c.if-not-whole.true-raw))

pub returns : goal.returns
returns c =
    let a = c.args in
    let b = lent_all a.heads.now a.subs.now a.rows.now a.own.now in
    fit-goes (station_lengths_of b (length a.events.now)) a.gone (eqb a.block 512 && (leb a.at.have 512 && leb 1740800 a.out)) a.at.goes_on c.if-gone-ne8.false
    (not-true _ (sym c.whole.ensures ∙ not-false _ c.if-not-whole.false-raw)) c.goes.ensures
