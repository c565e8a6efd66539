use borrow.Author.Tests.{le-leb, lt-leb}
use lib.IntN.{pos, neg_ℤ}
use mir.Syntax.{w64}
use mir.ValLaws.{to_z-of_z}
use Rattle.leafcases.specs.Parse.{negative}
use Rattle.leafcases.proofs.Text.{minus}
use Rattle.leafcases.proofs.parse.negative.Goals as goal

pub overflow_sub-result-then-v-le9223372036854775808 : goal.overflow_sub-result-then-v-le9223372036854775808
overflow_sub-result-then-v-le9223372036854775808 c =
    let m = minus c.args.v c.if-v-eq0.false c.if-v-le9223372036854775808.true in
    rw m.0 m.1

pub returns-then-v-eq0 : goal.returns-then-v-eq0
unfolding negative
returns-then-v-eq0 c = rw c.if-v-eq0.true

pub returns-then-v-le9223372036854775808 : goal.returns-then-v-le9223372036854775808
unfolding negative
returns-then-v-le9223372036854775808 c =
    let v = c.args.v in
    let m = minus v c.if-v-eq0.false c.if-v-le9223372036854775808.true in
    rw (le-leb _ _ c.if-v-le9223372036854775808.true, m.0, to_z-of_z w64 (neg_ℤ (pos v)) m.1)

pub returns-else-v-le9223372036854775808 : goal.returns-else-v-le9223372036854775808
unfolding negative
returns-else-v-le9223372036854775808 c = rw (lt-leb _ _ c.if-v-le9223372036854775808.false)
