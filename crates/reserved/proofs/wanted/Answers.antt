use Rattle.std.proofs.Common.{sym, ◌∙◌}
use Rattle.entry.specs.Entry.{entry_of}
use Rattle.reserved.specs.Reserved.{wants_row}
use Rattle.reserved.proofs.wanted.Goals as goal

pub returns-then-is_for : goal.returns-then-is_for
unfolding wants_row entry_of
returns-then-is_for c = rw (sym c.is_for.ensures ∙ c.if-is_for.true) c.has.ensures

pub returns-else-is_for : goal.returns-else-is_for
unfolding wants_row entry_of
returns-else-is_for c = rw (sym c.is_for.ensures ∙ c.if-is_for.false) c.if-is_for.false
