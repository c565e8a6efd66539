use borrow.Author.Tests.{not-true, not-false}
use Rattle.engine.proofs.storing.own_of.Goals as goal

pub returns-then-not-queue : goal.returns-then-not-queue
returns-then-not-queue c = rw (not-true c.args.queue c.if-not-queue.true-raw)

pub returns-then-s : goal.returns-then-s
returns-then-s c = rw (not-false c.args.queue c.if-not-queue.false-raw, c.if-s.true)

pub returns-else-s : goal.returns-else-s
returns-else-s c = rw (not-false c.args.queue c.if-not-queue.false-raw, c.if-s.false)
