use Rattle.std.proofs.Common.{Some, ap, arith, ◌^◌}
use borrow.Author.Tests.{ne_eqb, le-leb, lt-leb}
use lib.Dec.{eqb}
use borrow.Author.Tests.{eqb-true, eqb-false}
use Rattle.words.proofs.Tests.{by-test}
use Rattle.textwords.specs.Numbers.{negated}
use Rattle.textwords.proofs.negative.Goals as goal

pub returns-then-n-gt-NEGATIVE : goal.returns-then-n-gt-NEGATIVE
unfolding negated
returns-then-n-gt-NEGATIVE c = rw (ne_eqb c.args.n 0 (λ e. omega arith), lt-leb c.args.n (2 ^ 63) c.if-n-gt-NEGATIVE.true)

pub returns : goal.returns
unfolding negated
returns c =
    let n = c.args.n in
    by-test (eqb n 0)
    (λ t. let z = eqb-true n 0 t in rw t (ap Some (omega (arith, c.wrapping_neg.ensures))))
    (λ t. let z = eqb-false n 0 t in rw (t, le-leb n (2 ^ 63) c.if-n-gt-NEGATIVE.false) (ap Some (omega (arith, c.wrapping_neg.ensures))))
