use Rattle.callblocks.proofs.Blocks.{short-seal, seal-put}
use Rattle.callblocks.proofs.seal.Goals as goal

pub returns-then-block-lt-BLOCK : goal.returns-then-block-lt-BLOCK
returns-then-block-lt-BLOCK c = let a = c.args in short-seal a.count a.block.now c.if-block-lt-BLOCK.true

pub returns : goal.returns
returns c = let a = c.args in seal-put a.count a.block.now c.if-block-lt-BLOCK.false c.put_bytes.ensures c.block_check-sum.ensures c.put_bytes-2.ensures
