use borrow.Author.Tests.{lt-ltb, le-ltb, eq-eqb, ne_eqb}
use Rattle.audit.specs.Audit.{ring_sound}
use Rattle.audit.proofs.Audit.sound.Goals as goal

pub returns-then-self-lt-WINDOW : goal.returns-then-self-lt-WINDOW
unfolding ring_sound
returns-then-self-lt-WINDOW c = rw (lt-ltb _ _ c.if-self-lt-WINDOW.true)

pub returns-then-self-eq-WINDOW : goal.returns-then-self-eq-WINDOW
unfolding ring_sound
returns-then-self-eq-WINDOW c = rw (le-ltb _ _ c.if-self-lt-WINDOW.false, eq-eqb _ _ c.if-self-eq-WINDOW.true)

pub returns : goal.returns
unfolding ring_sound
returns c = rw (le-ltb _ _ c.if-self-lt-WINDOW.false, ne_eqb _ _ c.if-self-eq-WINDOW.false)
