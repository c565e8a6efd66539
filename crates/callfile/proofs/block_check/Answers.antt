use borrow.Author.Tests.{le-leb, lt-leb}
use lib.ListN.{length}
use Rattle.callfile.specs.Blocks.{check_in}
use Rattle.callfile.proofs.block_check.Goals as goal

pub returns-then-block-lt-BLOCK : goal.returns-then-block-lt-BLOCK
unfolding check_in
returns-then-block-lt-BLOCK c = rw (lt-leb 512 (length c.args.block.now) c.if-block-lt-BLOCK.true)

pub returns : goal.returns
unfolding check_in
returns c = rw (le-leb 512 (length c.args.block.now) c.if-block-lt-BLOCK.false) c.check_of.ensures
