use mathlib.Core.Path.{sym, ◌∙◌}
use Rattle.calltext.proofs.Showing.{named-low, place-known, place-raw}
use native.Mathlib.Omega.{arith}
use Rattle.calltext.proofs.place_for.Goals as goal

pub returns-then-has_name : goal.returns-then-has_name
returns-then-has_name c = let code = c.args.code in let t = sym c.has_name.ensures ∙ c.if-has_name.true in (place-known code t, omega (arith, named-low code t))

pub returns : goal.returns
returns c = (place-raw c.args.code (sym c.has_name.ensures ∙ c.if-has_name.false), omega arith)
