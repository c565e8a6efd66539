use mathlib.Core.Path.{sym, ◌∙◌}
use mathlib.Core.List.{[]}
use borrow.Author.Tests.{not-true, not-false}
use lib.ListN.{take}
use Rattle.stationcalls.specs.Parts.{lent_all}
use Rattle.stationrun.specs.StationRuns.{station_by}
use Rattle.stationreport.proofs.Places.{own-place, not_named, no-queue, other-put}
use Rattle.stationreport.proofs.lines.put_other.Goals as goal

pub returns-then-j-number : goal.returns-then-j-number
returns-then-j-number c =
    let a = c.args in
    let t = take a.n a.told.now in
    let u = station_by (lent_all a.heads.now a.subs.now a.rows.now a.own.now) [] in
    own-place a.number t u a.j a.at a.out.now c.if-j-number.true

pub returns-then-not-names : goal.returns-then-not-names
returns-then-not-names c =
    let a = c.args in
    let t = take a.n a.told.now in
    let u = station_by (lent_all a.heads.now a.subs.now a.rows.now a.own.now) [] in
    not_named a.number t u a.j a.at a.out.now c.if-j-number.false (sym c.names.ensures ∙ not-true _ c.if-not-names.true-raw)

pub returns-then-not-is_queue : goal.returns-then-not-is_queue
returns-then-not-is_queue c =
    let a = c.args in
    let t = take a.n a.told.now in
    let u = station_by (lent_all a.heads.now a.subs.now a.rows.now a.own.now) [] in
    no-queue a.number t u a.j a.at a.out.now c.if-j-number.false (sym c.names.ensures ∙ not-false _ c.if-not-names.false-raw) (sym c.is_queue.ensures ∙ not-true _ c.if-not-is_queue.true-raw)

pub returns : goal.returns
returns c =
    let a = c.args in
    let t = take a.n a.told.now in
    let u = station_by (lent_all a.heads.now a.subs.now a.rows.now a.own.now) [] in
    let w = c.ways_at-w in
    other-put a.number t u a.j a.at a.out.now c.if-j-number.false
    (sym c.names.ensures ∙ not-false _ c.if-not-names.false-raw) (sym c.is_queue.ensures ∙ not-false _ c.if-not-is_queue.false-raw)
    c.requires.3 w.result w.ensures c.put_others.ensures
