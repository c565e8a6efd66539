use mathlib.Core.Path.{sym}
use native.Mathlib.Omega.{arith}
use borrow.Author.Rules.{rules}
use Rattle.audit.proofs.Ring.{next_more, next-over, next_last}
use Rattle.audit.proofs.Audit.next.Goals as goal

pub returns-then-self-lt-WINDOW : goal.returns-then-self-lt-WINDOW
returns-then-self-lt-WINDOW c = sym (next_more c.args.self (search rules))

pub returns-then-self : goal.returns-then-self
returns-then-self c = sym (next-over c.args.self (search rules) (omega arith))

pub returns : goal.returns
returns c = sym (next_last c.args.self (search rules) (omega arith))
