use Rattle.callblocks.proofs.Bytes.{bytes-length}
use Rattle.callblocks.proofs.Blocks.{short-call, far_call, call-put}
use native.Mathlib.Omega.{arith}
use Rattle.callblocks.proofs.put_call.Goals as goal

pub returns-then-block-lt-BLOCK : goal.returns-then-block-lt-BLOCK
returns-then-block-lt-BLOCK c = let a = c.args in short-call a.k a.c a.block.now c.if-block-lt-BLOCK.true

pub returns-then-k-gt6 : goal.returns-then-k-gt6
returns-then-k-gt6 c = let a = c.args in far_call a.k a.c a.block.now c.if-block-lt-BLOCK.false c.if-k-gt6.true

pub put_words-requires : goal.put_words-requires
put_words-requires c = let a = c.args in omega (arith, c.put_bytes-next.ensures.next, c.put_bytes-next.ensures.same, bytes-length 8 a.c.code)

pub returns : goal.returns
returns c = let a = c.args in call-put a.k a.c a.block.now c.if-block-lt-BLOCK.false c.if-k-gt6.false c.put_bytes-next.ensures c.put_words.ensures
