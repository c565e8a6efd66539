use mathlib.Core.Path.{sym, ◌∙◌}
use Rattle.calltext.proofs.Showing.{destination-known, destination-raw}
use Rattle.calltext.proofs.shown_destination.Goals as goal

pub returns-then-has_name : goal.returns-then-has_name
returns-then-has_name c = destination-known c.args.code (sym c.has_name.ensures ∙ c.if-has_name.true)

pub returns : goal.returns
returns c = destination-raw c.args.code (sym c.has_name.ensures ∙ c.if-has_name.false)
