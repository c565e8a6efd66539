use Rattle.running.proofs.Steps.{no_block, whole-block, by-text}
use Rattle.running.proofs.roomy.Goals as goal

pub returns-then-block-ne-BLOCK : goal.returns-then-block-ne-BLOCK
returns-then-block-ne-BLOCK c = let a = c.args in no_block a.most a.block a.at.have a.out c.if-block-ne-BLOCK.true

pub returns-then-at-ge-BLOCK : goal.returns-then-at-ge-BLOCK
returns-then-at-ge-BLOCK c = let a = c.args in whole-block a.most a.block a.at.have a.out c.if-block-ne-BLOCK.false c.if-at-ge-BLOCK.true

pub returns : goal.returns
returns c = let a = c.args in by-text a.most a.block a.at.have a.out c.if-block-ne-BLOCK.false c.if-at-ge-BLOCK.false
