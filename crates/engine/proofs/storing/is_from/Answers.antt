use Rattle.std.proofs.Common.{rules, tests}
use Rattle.entry.specs.Entry.{entry_of}
use Rattle.engine.proofs.storing.is_from.Goals as goal

pub returns : goal.returns
unfolding entry_of
returns c = search (rules, tests)
