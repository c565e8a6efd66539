use Rattle.callfile.proofs.Parts.{then}
use Rattle.reportlines.specs.ReportLines.{totals_line}
use native.Mathlib.Omega.{arith}
use Rattle.reportlines.proofs.totals_line.Goals as goal

pub returns : goal.returns
unfolding totals_line
returns c = (then c.put_letter-a.ensures (then c.put_ways-b.ensures.0 (then c.put_gone-c.ensures.0 c.put_letter.ensures)), omega arith)
