use borrow.Author.Tests.{lt-ltb, le-ltb}
use Rattle.broker.proofs.room_for.Goals as goal

pub returns-then-limit-used : goal.returns-then-limit-used
returns-then-limit-used c = simp (lt-ltb _ _ c.if-limit-used.true)

pub returns-else-limit-used : goal.returns-else-limit-used
returns-else-limit-used c = simp (le-ltb _ _ c.if-limit-used.false)
