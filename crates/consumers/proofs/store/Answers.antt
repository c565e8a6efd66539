use mathlib.Core.Path.{sym}
use lib.Seq.{set_out}
use Rattle.consumers.proofs.store.Goals as goal

pub returns-then-i-subs : goal.returns-then-i-subs
returns-then-i-subs c = rw c.words_of.ensures

pub returns-else-i-subs : goal.returns-else-i-subs
returns-else-i-subs c = sym (set_out _ c.args.i _ c.if-i-subs.false)
