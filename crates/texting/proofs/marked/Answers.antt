use mathlib.Core.Path.{◌∙◌}
use Rattle.texting.proofs.Showing.{marked-later, marked-first}
use Rattle.texting.proofs.marked.Goals as goal

pub returns-then-n-ne1 : goal.returns-then-n-ne1
returns-then-n-ne1 c = marked-later c.args.n c.args.line.now c.if-n-ne1.true

pub returns : goal.returns
returns c = c.has_mark.ensures ∙ marked-first c.args.n c.args.line.now c.if-n-ne1.false
