use mathlib.Core.Path.{ap}
use native.Mathlib.Omega.{arith}
use lib.ListN.{length}
use Rattle.callfile.proofs.Digits.{decimal-one, decimal-more, more-length}
use Rattle.callfile.proofs.Parts.{then}
use borrow.Author.Rules.{rules}
use Rattle.callfile.proofs.+put_digits.Goals as goal

pub put-requires : goal.put-requires
put-requires t c = omega (arith, ap length (decimal-one c.args.n c.if-n-lt10.true))

pub returns-then-n-lt10 : goal.returns-then-n-lt10
returns-then-n-lt10 t c = rw (decimal-one c.args.n c.if-n-lt10.true) c.put.ensures

pub put_digits-next-requires : goal.put_digits-next-requires
put_digits-next-requires t c = (omega arith, omega (arith, more-length c.args.n c.if-n-lt10.false (search rules)))

pub put-requires-2 : goal.put-requires-2
put-requires-2 t c = omega (arith, c.put_digits-next.ensures.next, c.put_digits-next.ensures.same, more-length c.args.n c.if-n-lt10.false (search rules))

pub returns : goal.returns
returns t c = rw (decimal-more c.args.n c.if-n-lt10.false (search rules)) (then c.put_digits-next.ensures c.put-2.ensures)
