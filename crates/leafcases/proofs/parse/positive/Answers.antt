use borrow.Author.Tests.{lt-ltb, le-ltb}
use Rattle.leafcases.specs.Parse.{positive}
use Rattle.leafcases.proofs.parse.positive.Goals as goal

pub returns-then-v-lt9223372036854775808 : goal.returns-then-v-lt9223372036854775808
unfolding positive
returns-then-v-lt9223372036854775808 c = rw (lt-ltb _ _ c.if-v-lt9223372036854775808.true)

pub returns-else-v-lt9223372036854775808 : goal.returns-else-v-lt9223372036854775808
unfolding positive
returns-else-v-lt9223372036854775808 c = rw (le-ltb _ _ c.if-v-lt9223372036854775808.false)
