use borrow.Author.Tests.{lt-ltb, le-ltb}
use Rattle.audit.specs.Audit.{place}
use Rattle.audit.proofs.Audit.place.Goals as goal

pub returns-then-self-lt-WINDOW : goal.returns-then-self-lt-WINDOW
unfolding place
returns-then-self-lt-WINDOW c = rw (lt-ltb _ _ c.if-self-lt-WINDOW.true)

pub returns-else-self-lt-WINDOW : goal.returns-else-self-lt-WINDOW
unfolding place
returns-else-self-lt-WINDOW c = rw (le-ltb _ _ c.if-self-lt-WINDOW.false)
