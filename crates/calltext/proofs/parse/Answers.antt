use mathlib.Core.Path.{◌∙◌}
use Rattle.textwords.specs.declared.Stop.TheVariants.{Remark}
use Rattle.textwords.proofs.Words.{run-within}
use Rattle.calltext.proofs.Gathering.{parsed-part}
use native.Mathlib.Omega.{arith}
use Rattle.calltext.proofs.parse.Goals as goal

pub slice_bounds-parse_words-end : goal.slice_bounds-parse_words-end
slice_bounds-parse_words-end c = let l = c.args.line.now in omega (arith, c.scan-e.ensures, run-within Remark l)

pub returns : goal.returns
returns c = c.parse_words.ensures ∙ parsed-part c.args.line.now c.scan-e.result c.scan-e.ensures
