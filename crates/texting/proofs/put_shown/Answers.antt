use Rattle.callfile.proofs.Parts.{then, line-puts}
use Rattle.texting.proofs.Showing.{shown-whole, shown-cut}
use mathlib.Core.Path.{◌≡◌}
use lib.ListN.{length, take}
use lib.Seq.{length-take-le}
use native.Mathlib.Omega.{arith}
use Rattle.texting.proofs.put_shown.Goals as goal

pub returns-then-word-le-CUT : goal.returns-then-word-le-CUT
returns-then-word-le-CUT c =
    let a = c.args in
    let p = c.put_bytes-a.ensures in
    let q = line-puts (omega (arith, p.0.same, p.1)) (omega arith) c.put_all.ensures in
    (rw (shown-whole a.word.now c.if-word-le-CUT.true) at (then p.0 q), omega (arith, p.1, q.next))

pub put_bytes-a-requires-2 : goal.put_bytes-a-requires-2
put_bytes-a-requires-2 c = omega (arith, length-take-le 40 c.args.word.now)

pub returns : goal.returns
returns c =
    let a = c.args in
    let p = c.put_bytes-a-2.ensures in
    let t : length (take 40 a.word.now) ≡ 40 = length-take-le 40 a.word.now (omega arith) in
    let q = line-puts (omega (arith, p.0.same, p.1, t)) (omega arith) c.put_all-2.ensures in
    (rw (shown-cut a.word.now c.if-word-le-CUT.false) at (then p.0 q), omega (arith, p.1, q.next, t))
