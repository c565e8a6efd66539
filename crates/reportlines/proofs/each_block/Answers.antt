use lib.ListN.{length}
use Rattle.std.proofs.lemmas.List.{take_all}
use Rattle.reportlines.proofs.Blocks.{no_blocks, so-many, space, one_more}
use Rattle.reportlines.proofs.each_block.Goals as goal

pub loop-b-init : goal.loop-b-init
loop-b-init c = no_blocks c.args.out.now c.args.from

pub block_line-at-requires : goal.block_line-at-requires
block_line-at-requires c =
    let l = c.loop-b in
    let a = c.args in
    space a.blocks.now a.from l.b-index (length a.blocks.now) a.out.now l.out l.at l.invariant c.requires c.loop-b-test.true

pub loop-b-preserved : goal.loop-b-preserved
loop-b-preserved c =
    let l = c.loop-b in
    let a = c.args in
    one_more a.blocks.now a.from l.b-index (length a.blocks.now) a.out.now l.out l.at l.invariant c.requires c.loop-b-test.true c.block_line-at.ensures.0

pub returns : goal.returns
returns c =
    let l = c.loop-b in
    let a = c.args in
    (rw (take_all l.b-index a.blocks.now c.loop-b-test.false) at l.invariant, so-many a.blocks.now a.from l.b-index (length a.blocks.now) a.out.now l.out l.at l.invariant c.requires l.auto.b-index-end)
