use Rattle.std.proofs.Common.{sym}
use Rattle.consumers.specs.Consumers.{accepts_of}
use Rattle.consumers.proofs.Sub.accepts.Goals as goal

pub returns-then-not-is_local : goal.returns-then-not-is_local
unfolding accepts_of
returns-then-not-is_local c = rw (sym c.is_local.ensures, c.if-not-is_local.true, c.selects.ensures)

pub returns-else-not-is_local : goal.returns-else-not-is_local
unfolding accepts_of
returns-else-not-is_local c = rw (sym c.is_local.ensures, c.if-not-is_local.false)
