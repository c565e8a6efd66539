use mathlib.Core.Path.{sym, ◌∙◌, subst}
use borrow.Author.Tests.{not-true, not-false}
use Rattle.definition_station.specs.Station.{StationResult}
use Rattle.definition_station.specs.Called.{StationStarted}
use Rattle.stationcalls.specs.Parts.{lent_all}
use Rattle.stationrun.proofs.Starts.{as_short, as-above, as-numbered, as-worded, as-started}
use Rattle.stationrun.proofs.start.Goals as goal

pub returns-then-not-whole : goal.returns-then-not-whole
returns-then-not-whole c = let a = c.args in
    as_short (lent_all a.heads.now a.subs.now a.rows.now a.own.now) a.events.now a.number a.words (not-false _ (sym c.whole.ensures ∙ not-true _ c.if-not-whole.true-raw))

pub returns-then-number-gt7 : goal.returns-then-number-gt7
returns-then-number-gt7 c = let a = c.args in
    as-above (lent_all a.heads.now a.subs.now a.rows.now a.own.now) a.events.now a.number a.words (not-true _ (sym c.whole.ensures ∙ not-false _ c.if-not-whole.false-raw)) c.if-number-gt7.true

pub returns-then-number-ne0 : goal.returns-then-number-ne0
returns-then-number-ne0 c = let a = c.args in
    as-numbered (lent_all a.heads.now a.subs.now a.rows.now a.own.now) a.events.now a.number a.words (not-true _ (sym c.whole.ensures ∙ not-false _ c.if-not-whole.false-raw)) c.if-number-gt7.false c.if-number-ne0.true

pub returns-then-not-zeros : goal.returns-then-not-zeros
returns-then-not-zeros c = let a = c.args in
    as-worded (lent_all a.heads.now a.subs.now a.rows.now a.own.now) a.events.now a.number a.words (not-true _ (sym c.whole.ensures ∙ not-false _ c.if-not-whole.false-raw)) c.if-number-gt7.false c.if-number-ne0.false (sym c.zeros.ensures ∙ not-true _ c.if-not-zeros.true-raw)

pub returns : goal.returns
returns c = let a = c.args in
    let k = c.start in
    subst (λ (q : StationResult). StationStarted q (lent_all a.heads.now a.subs.now a.rows.now a.own.now) (lent_all a.heads.now a.subs.now a.rows.now k.new.own) a.events.now a.events.now k.result) (as-started (lent_all a.heads.now a.subs.now a.rows.now a.own.now) a.events.now a.number a.words (not-true _ (sym c.whole.ensures ∙ not-false _ c.if-not-whole.false-raw)) c.if-number-gt7.false c.if-number-ne0.false (sym c.zeros.ensures ∙ not-false _ c.if-not-zeros.false-raw)) k.ensures
