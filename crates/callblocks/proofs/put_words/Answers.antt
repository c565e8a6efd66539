use lib.ListN.{get_or}
use lib.Seq.{take_all}
use Rattle.callfile.proofs.Parts.{then, nothing}
use Rattle.callblocks.proofs.Bytes.{bytes-length, one_word, no_word}
use native.Mathlib.Omega.{arith}
use borrow.Author.Rules.{rules}
use Rattle.callblocks.proofs.put_words.Goals as goal

pub loop-x-init : goal.loop-x-init
loop-x-init c = let a = c.args in (search rules, omega arith, rw (no_word a.w) (nothing a.at a.block.now).0)

pub loop-x-preserved : goal.loop-x-preserved
loop-x-preserved c = let a = c.args in let v = c.loop-x.invariant in let p = c.put_bytes-next.ensures in (v.0, omega (arith, p.next, bytes-length 8 (get_or a.w c.loop-x.x-index 0)), rw (one_word a.w c.loop-x.x-index (omega arith)) (then v.2 p))

pub returns : goal.returns
returns c = let a = c.args in let v = c.loop-x.invariant in rw (take_all c.loop-x.x-index a.w (omega arith)) at v.2
