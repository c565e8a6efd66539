use Rattle.stationrun.proofs.CallSteps.{no_block, past-block, no_text, all_room}
use Rattle.stationrun.proofs.goes.Goals as goal

pub returns-then-block-ne-BLOCK : goal.returns-then-block-ne-BLOCK
returns-then-block-ne-BLOCK c = let a = c.args in no_block a.most a.block a.at.have a.out a.at.goes_on c.if-block-ne-BLOCK.true

pub returns-then-at-gt-BLOCK : goal.returns-then-at-gt-BLOCK
returns-then-at-gt-BLOCK c = let a = c.args in past-block a.most a.block a.at.have a.out a.at.goes_on c.if-block-ne-BLOCK.false c.if-at-gt-BLOCK.true

pub returns-then-out-most : goal.returns-then-out-most
returns-then-out-most c = let a = c.args in no_text a.most a.block a.at.have a.out a.at.goes_on c.if-block-ne-BLOCK.false c.if-at-gt-BLOCK.false c.if-out-most.true

pub returns : goal.returns
returns c = let a = c.args in all_room a.most a.block a.at.have a.out a.at.goes_on c.if-block-ne-BLOCK.false c.if-at-gt-BLOCK.false c.if-out-most.false
