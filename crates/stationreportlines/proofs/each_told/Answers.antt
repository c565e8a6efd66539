use lib.ListN.{length}
use Rattle.std.proofs.lemmas.List.{take_all}
use Rattle.stationreportlines.specs.StationReportLines.{told_line}
use Rattle.stationlines.proofs.Rows.{no_rows, so-many, space, one_more}
use Rattle.stationreportlines.proofs.Rows.{told-length}
use Rattle.stationreportlines.proofs.each_told.Goals as goal

pub loop-row-init : goal.loop-row-init
loop-row-init c = no_rows (told_line c.args.d) c.args.out.now c.args.from

pub told_line-at-requires : goal.told_line-at-requires
told_line-at-requires c =
    let l = c.loop-row in
    let a = c.args in
    space (told_line a.d) (told-length a.d) a.rows.now a.from l.row-index (length a.rows.now) a.out.now l.out l.at l.invariant c.requires c.loop-row-test.true

pub loop-row-preserved : goal.loop-row-preserved
loop-row-preserved c =
    let l = c.loop-row in
    let a = c.args in
    one_more (told_line a.d) (told-length a.d) a.rows.now a.from l.row-index (length a.rows.now) a.out.now l.out l.at l.invariant c.requires c.loop-row-test.true c.told_line-at.ensures.0

pub returns : goal.returns
returns c =
    let l = c.loop-row in
    let a = c.args in
    (rw (take_all l.row-index a.rows.now c.loop-row-test.false) at l.invariant, so-many (told_line a.d) (told-length a.d) a.rows.now a.from l.row-index (length a.rows.now) a.out.now l.out l.at l.invariant c.requires l.auto.row-index-end)
