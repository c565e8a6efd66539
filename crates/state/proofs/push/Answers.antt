use mathlib.Core.Path.{refl, sym}
use borrow.Author.Tests.{lt-ltb, le-ltb}
use lib.Seq.{set_out}
use Rattle.state.specs.State.{pushed}
use Rattle.state.proofs.push.Goals as goal

pub returns-then-at-events : goal.returns-then-at-events
unfolding pushed
returns-then-at-events c = (rw (lt-ltb _ _ c.if-at-events.true), refl)

pub returns-else-at-events : goal.returns-else-at-events
unfolding pushed
returns-else-at-events c = (rw (le-ltb _ _ c.if-at-events.false), sym (set_out _ _ _ c.if-at-events.false))
