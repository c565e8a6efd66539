use mathlib.Core.Path.{sym}
use borrow.Author.Tests.{le-leb, lt-leb}
use Rattle.callfile.proofs.Parts.{whole-line, no_room, line-puts}
use Rattle.texting.proofs.Showing.{bad-block, good-block}
use native.Mathlib.Omega.{arith}
use Rattle.callfile.proofs.Digits.{bad-length}
use Rattle.callfile.proofs.Checks.{calls-few}
use Rattle.texting.proofs.show.Goals as goal

pub returns-then-out-lt-TEXT : goal.returns-then-out-lt-TEXT
returns-then-out-lt-TEXT c = no_room _ c.args.out.now 0 (lt-leb 3584 _ c.if-out-lt-TEXT.true)

pub returns-then-count-eq0 : goal.returns-then-count-eq0
returns-then-count-eq0 c =
    let a = c.args in
    let h = bad-length a.number in
    let p = line-puts (omega arith) (omega arith) c.put_bad.ensures in
    rw (sym (bad-block a.number a.block.now a.got c.calls_in-count.result c.calls_in-count.ensures c.if-count-eq0.true)) (whole-line (le-leb 3584 _ c.if-out-lt-TEXT.false) (p, omega (arith, p.next)))

pub put_calls-requires : goal.put_calls-requires
put_calls-requires c = let a = c.args in (c.if-out-lt-TEXT.false, omega (arith, c.calls_in-count.ensures, calls-few a.block.now a.got))

pub returns : goal.returns
returns c =
    let a = c.args in
    rw (sym (good-block a.number a.block.now a.got c.calls_in-count.result c.calls_in-count.ensures c.if-count-eq0.false)) (whole-line (le-leb 3584 _ c.if-out-lt-TEXT.false) c.put_calls.ensures)
