use borrow.Author.Tests.{lt-ltb, le-ltb}
use Rattle.sound.proofs.stands.Goals as goal

pub returns-then-to-i : goal.returns-then-to-i
returns-then-to-i c = rw (le-ltb c.args.i c.args.to c.if-to-i.true)

pub returns : goal.returns
returns c = rw (lt-ltb c.args.i c.args.to c.if-to-i.false)
