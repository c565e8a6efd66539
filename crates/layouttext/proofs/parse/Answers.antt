use mathlib.Core.Path.{◌∙◌}
use Rattle.textwords.specs.declared.Stop.TheVariants.{Remark}
use Rattle.textwords.proofs.Words.{run-within}
use Rattle.layouttext.proofs.Lines.{parsed-part}
use native.Mathlib.Omega.{arith}
use Rattle.layouttext.proofs.parse.Goals as goal

pub slice_bounds-row_in-end : goal.slice_bounds-row_in-end
slice_bounds-row_in-end c = let l = c.args.line.now in omega (arith, c.scan-e.ensures, run-within Remark l)

pub returns : goal.returns
returns c = c.row_in.ensures ∙ parsed-part c.args.line.now c.scan-e.result c.scan-e.ensures
