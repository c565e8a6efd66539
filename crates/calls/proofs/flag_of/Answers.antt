use mathlib.Core.Path.{sym}
use native.Mathlib.Omega.{arith}
use borrow.Author.Tests.{le-ltb}
use Rattle.calls.proofs.Fitting.{bit-above}
use borrow.Author.Rules.{rules}
use Rattle.calls.proofs.flag_of.Goals as goal

pub returns-else-k-lt64 : goal.returns-else-k-lt64
returns-else-k-lt64 c = rw (le-ltb c.args.k 64 c.if-k-lt64.false) (sym (bit-above c.args.word c.args.k (search rules) (omega arith)))
