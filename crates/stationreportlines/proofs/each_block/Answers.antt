use lib.ListN.{length}
use Rattle.std.proofs.lemmas.List.{take_all}
use Rattle.stationreportlines.specs.StationReportLines.{block_line_on}
use Rattle.stationlines.proofs.Rows.{no_rows, so-many, space, one_more}
use Rattle.stationreportlines.proofs.Rows.{block-on-length}
use Rattle.stationreportlines.proofs.each_block.Goals as goal

pub loop-b-init : goal.loop-b-init
loop-b-init c = no_rows (block_line_on c.args.d) c.args.out.now c.args.from

pub block_line-at-requires : goal.block_line-at-requires
block_line-at-requires c =
    let l = c.loop-b in
    let a = c.args in
    space (block_line_on a.d) (block-on-length a.d) a.blocks.now a.from l.b-index (length a.blocks.now) a.out.now l.out l.at l.invariant c.requires c.loop-b-test.true

pub loop-b-preserved : goal.loop-b-preserved
loop-b-preserved c =
    let l = c.loop-b in
    let a = c.args in
    one_more (block_line_on a.d) (block-on-length a.d) a.blocks.now a.from l.b-index (length a.blocks.now) a.out.now l.out l.at l.invariant c.requires c.loop-b-test.true c.block_line-at.ensures.0

pub returns : goal.returns
returns c =
    let l = c.loop-b in
    let a = c.args in
    (rw (take_all l.b-index a.blocks.now c.loop-b-test.false) at l.invariant, so-many (block_line_on a.d) (block-on-length a.d) a.blocks.now a.from l.b-index (length a.blocks.now) a.out.now l.out l.at l.invariant c.requires l.auto.b-index-end)
