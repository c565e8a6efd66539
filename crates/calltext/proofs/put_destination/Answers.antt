use Rattle.callfile.proofs.Digits.{word-length}
use Rattle.callfile.proofs.Parts.{then, line-puts, none-put}
use Rattle.calltext.proofs.Showing.{no-destination, some-destination, first_byte}
use native.Mathlib.Omega.{arith}
use Rattle.calltext.proofs.put_destination.Goals as goal

pub returns-then-d-eq0 : goal.returns-then-d-eq0
returns-then-d-eq0 c = let a = c.args in (rw (no-destination a.d c.if-d-eq0.true) (none-put a.at a.out.now), omega arith)

pub returns : goal.returns
returns c =
    let a = c.args in
    let h = word-length a.d in
    let p = line-puts (omega arith) (omega arith) c.put_word-next.ensures in
    let q = first_byte p (line-puts (omega (arith, p.same)) (omega arith) c.put_byte.ensures) in
    let r = line-puts (omega (arith, q.next, q.same)) (omega arith) c.put_byte-2.ensures in
    (rw (some-destination a.d c.if-d-eq0.false) (then q r), omega (arith, q.next, r.next))
