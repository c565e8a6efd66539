use Rattle.calltext.proofs.Faulting.{word-at}
use native.Mathlib.Omega.{arith}
use Rattle.calltext.proofs.next_word.Goals as goal

pub returns : goal.returns
returns c = let a = c.args in word-at a.text.now a.from c.scan-i.result c.scan-e.result (omega arith) c.scan-i.ensures c.scan-e.ensures
